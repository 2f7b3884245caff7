use Rattle.std.proofs.Common.{w64, arith}
use Rattle.std.proofs.lemmas.Nat.Bits.{bit_at_set_same, bit_at_set_other}
use Rattle.data_blocks.proofs.BitLemmas.{writes_bit}
use Rattle.data_blocks.proofs.bits.set_bit.Goals as goal

pub returns : goal.returns
returns c =
    writes_bit _ _ _ _ c.requires (bit_at_set_same w64 _ _ (omega arith)) (λ i within differs. bit_at_set_other w64 _ _ (omega arith) i differs)
