use Rattle.base_instructions.proofs.Tokens.{reads_entry, reads_entry_dash}
use Rattle.base_instructions.proofs.operands.read_entry.Goals as goal

pub returns-in-Some : goal.returns-in-Some
returns-in-Some c = let h = c.in-Some.ensures in rw h (reads_entry_dash _)

pub returns-in_default-Some : goal.returns-in_default-Some
returns-in_default-Some c = let h = c.in_default.ensures in reads_entry c.args.bytes.now c.read_prefixed.result.0 _ h (rw c.in_default-Some.is-1 at c.read_prefixed.ensures)

pub returns-in_default-None : goal.returns-in_default-None
returns-in_default-None c = let h = c.in_default.ensures in reads_entry c.args.bytes.now c.read_prefixed.result.0 _ h (rw c.in_default-None.is-1 at c.read_prefixed.ensures)
