use Rattle.std.proofs.Common.{◌≡◌, take}
use Rattle.base_instructions.proofs.building.list.Given as goal

abbrev pub invariant-loop-operand : goal.invariant-loop-operand
invariant-loop-operand l = l.list.items ≡ take l.operand-index l.operands
