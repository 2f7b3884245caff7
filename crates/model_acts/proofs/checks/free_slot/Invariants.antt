use Rattle.std.proofs.Common.{◌≡◌, drop}
use Rattle.model_kernel.specs.Words.{free_slot_from, free_slot}
use Rattle.model_acts.proofs.checks.free_slot.Given as goal

abbrev pub invariant-loop-slot : goal.invariant-loop-slot
invariant-loop-slot l = free_slot_from l.slot (drop l.slot l.caps) ≡ free_slot l.caps
