use Rattle.std.proofs.Common.{length}
use Rattle.base_instructions.proofs.operands.+read_letters.Given as goal

abbrev pub decreases-read_letters : goal.decreases-read_letters
decreases-read_letters l = length l.letters.now
