-- The lowest empty slot is not among those that were passed.
use Rattle.std.proofs.Common.{◌≡◌, drop}
use Rattle.base_types.specs.Slots.{free_slot_from, free_slot}
use Rattle.data_capabilities.proofs.lowest_empty.Given as goal

abbrev pub invariant-loop-slot : goal.invariant-loop-slot
invariant-loop-slot l = free_slot_from l.slot (drop l.slot l.slots) ≡ free_slot l.slots
