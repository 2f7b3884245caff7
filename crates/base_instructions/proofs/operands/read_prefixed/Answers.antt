use Rattle.std.proofs.Common.{◌≤◌, arith}
use Rattle.std.specs.Fmt.{decimal}
use Rattle.base_instructions.proofs.Tokens.{reads_after, reads_missing}
use Rattle.base_instructions.proofs.operands.read_prefixed.Goals as goal

pub returns-in-Some : goal.returns-in-Some
returns-in-Some c = rw c.in-Some.ensures (reads_after (λ n. n ≤ c.args.greatest) decimal c.args.prefix _ _ _ c.read_number-length.ensures)

pub returns-in-None : goal.returns-in-None
returns-in-None c = reads_missing (λ n. n ≤ c.args.greatest) decimal c.args.prefix c.args.bytes.now 0 (omega arith) c.in-None.ensures
