-- Two entries: of a step that writes 1 and 41, and of one that writes 41 alone.
use Rattle.std.specs.Prelude.{true, [], ◌∷◌}
use Rattle.base_types.specs.declared.histories.Answer.TheVariants.{Quiet}
use Rattle.base_types.specs.declared.histories.Event.TheVariants.{Step}
use Rattle.base_types.specs.declared.histories.Entry.{Entry}

abbrev pub first_entry : Entry
first_entry = record { event = Step; actor = 41; touched = record { version = 1; entity = 1; wrote = true } ∷ record { version = 1; entity = 41; wrote = true } ∷ []; version = 0; answer = Quiet }

abbrev pub second_entry : Entry
second_entry = record { event = Step; actor = 41; touched = record { version = 2; entity = 41; wrote = true } ∷ []; version = 0; answer = Quiet }
