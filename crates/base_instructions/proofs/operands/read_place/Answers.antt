use Rattle.base_instructions.proofs.Tokens.{reads_place}
use Rattle.base_instructions.proofs.operands.read_place.Goals as goal

pub returns-in_default-Some : goal.returns-in_default-Some
returns-in_default-Some c = reads_place c.args.bytes.now c.read_prefixed.result.0 _ (rw c.in_default-Some.is-1 at c.read_prefixed.ensures)

pub returns-in_default-None : goal.returns-in_default-None
returns-in_default-None c = reads_place c.args.bytes.now c.read_prefixed.result.0 _ (rw c.in_default-None.is-1 at c.read_prefixed.ensures)
