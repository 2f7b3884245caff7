-- The word and the operands so far are written.
use Rattle.std.proofs.Common.{◌≡◌, ◌++◌, take}
use Rattle.base_instructions.specs.Forms.{word_at, tail}
use Rattle.base_instructions.proofs.writing.write_line.Given as goal

abbrev pub invariant-loop-operand : goal.invariant-loop-operand
invariant-loop-operand l = l.out.bytes ≡ word_at l.code ++ tail (take l.operand-index l.operand-items)
