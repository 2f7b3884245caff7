use Rattle.std.proofs.Common.{refl, arith}
use Rattle.base_instructions.proofs.Tokens.{reads_rights, reads_rights_dash, reads_set, reads_no_set, all_letters}
use Rattle.base_instructions.proofs.operands.read_rights.Goals as goal

pub returns-in-Some : goal.returns-in-Some
returns-in-Some c = let h = c.in-Some.ensures in rw h (reads_rights_dash _)

pub returns-then-length-eq0 : goal.returns-then-length-eq0
returns-then-length-eq0 c =
    reads_rights c.args.bytes.now 0 _ c.in_default.ensures (reads_no_set all_letters c.args.bytes.now 0 c.read_letters-length.result.1 (rw c.if-length-eq0.true at c.read_letters-length.ensures) refl (omega arith) refl)

pub returns : goal.returns
returns c = reads_rights c.args.bytes.now _ _ c.in_default.ensures (reads_set all_letters c.args.bytes.now _ _ c.read_letters-length.ensures (omega arith))
