use Rattle.std.proofs.Common.{arith}
use Rattle.data_blocks.proofs.BitLemmas.{lowest_is_set, lowest_is_first}
use Rattle.data_blocks.proofs.bits.lowest_bit.Goals as goal

pub returns-then-word-ne0-clause-found : goal.returns-then-word-ne0-clause-found
returns-then-word-ne0-clause-found c = lowest_is_set _ _ c.if-word-ne0.true (omega (arith, c.type_inv.words c.loop-at.at))

pub returns-then-word-ne0-clause-lowest : goal.returns-then-word-ne0-clause-lowest
returns-then-word-ne0-clause-lowest c = lowest_is_first _ _ c.if-word-ne0.true (omega (arith, c.type_inv.words c.loop-at.at)) c.loop-at.invariant
