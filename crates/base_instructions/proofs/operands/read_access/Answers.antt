use Rattle.std.proofs.Common.{[], ◌∷◌, refl, arith}
use Rattle.base_instructions.proofs.Tokens.{reads_access, reads_set, reads_no_set}
use Rattle.base_instructions.proofs.operands.read_access.Goals as goal

pub returns-then-length-eq0 : goal.returns-then-length-eq0
returns-then-length-eq0 c =
    reads_access c.args.bytes.now 0 _ (reads_no_set (114 ∷ 119 ∷ []) c.args.bytes.now 0 c.read_letters-length.result.1 (rw c.if-length-eq0.true at c.read_letters-length.ensures) refl (omega arith) refl)

pub returns : goal.returns
returns c = reads_access c.args.bytes.now _ _ (reads_set (114 ∷ 119 ∷ []) c.args.bytes.now _ _ c.read_letters-length.ensures (omega arith))
