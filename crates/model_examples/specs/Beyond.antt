-- A locus with a number past those of entities, which halts at once.
use Rattle.std.specs.Prelude.{◌==◌, List, [], ◌∷◌, if◌then◌else◌, nat_le}
use Rattle.base_types.specs.declared.histories.Answer.TheVariants.{Quiet}
use Rattle.base_types.specs.declared.histories.Entry.{Entry}
use Rattle.base_types.specs.declared.histories.Event.TheVariants.{Step}
use Rattle.model_run_laws.specs.model_kernel.Histories.{Policy}
use Rattle.model_run_laws.specs.model_kernel.State.{KernelState, LocusCell, empty_state}
use Rattle.model_examples.specs.Clash.{locus_alone}
use Rattle.model_examples.specs.Snapshots.{wrote}

-- an entity is to be recorded where it has been written twice since its newest commit
abbrev pub if_written_twice : Policy
if_written_twice every since = nat_le 2 since

abbrev pub with_stray : KernelState
with_stray = λ x. if x == 64 then record { cell = LocusCell locus_alone; version = 1; stamp = λ y. if y == 64 then 1 else 0 } else empty_state x

abbrev pub halts : Entry
halts = record { event = Step; actor = 64; touched = wrote 64 2 ∷ []; version = 0; answer = Quiet }

abbrev pub halting : List Entry
halting = halts ∷ []
