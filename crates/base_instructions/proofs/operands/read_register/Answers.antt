use Rattle.base_instructions.proofs.Tokens.{reads_register}
use Rattle.base_instructions.proofs.operands.read_register.Goals as goal

pub returns-in_default-Some : goal.returns-in_default-Some
returns-in_default-Some c = reads_register c.args.bytes.now c.read_prefixed.result.0 _ (rw c.in_default-Some.is-1 at c.read_prefixed.ensures)

pub returns-in_default-None : goal.returns-in_default-None
returns-in_default-None c = reads_register c.args.bytes.now c.read_prefixed.result.0 _ (rw c.in_default-None.is-1 at c.read_prefixed.ensures)
