-- The Step entries of a history.
use Rattle.std.specs.Prelude.{◌&&◌, ◌==◌, ℕ, Bool, true, false}
use Rattle.model_cut_laws.specs.base_types.declared.histories.Entry.{Entry}
use Rattle.model_cut_laws.specs.base_types.declared.histories.Event.{Event}
use Rattle.model_cut_laws.specs.base_types.declared.histories.Event.TheVariants.{Birth, Step, Snap, Stable, Tried}

abbrev pub is_step : Event → Bool
is_step Step = true
is_step Birth = false
is_step Snap = false
is_step Stable = false
is_step Tried = false

-- a step of the locus
abbrev pub steps_by : ℕ → Entry → Bool
steps_by x e = is_step e.event && x == e.actor
