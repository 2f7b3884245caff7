use Rattle.std.specs.Prelude.{slice_index}
use Rattle.image_chosen_facts.proofs.Slots.{NotYet}
use Rattle.image_chosen.proofs.choosing.chosen_slot.Given as goal

abbrev pub invariant-loop-slot : goal.invariant-loop-slot
invariant-loop-slot l = NotYet (slice_index l.cut.0) l.x l.recs l.slot
