use Rattle.std.proofs.Common.{ap, arith}
use Rattle.data_blocks.proofs.BitLemmas.{sound_new, all_free}
use Rattle.data_blocks.proofs.Pool.new.Goals as goal

pub invariant_of-result : goal.invariant_of-result
invariant_of-result c =
    let inv = c.loop-block.invariant in
    rw c.saturating_sub.ensures (sound_new _ _ _ (omega arith) inv.len (λ b low high. inv.on b low (omega arith)) inv.before inv.past)

pub returns : goal.returns
returns c =
    ap (λ bs. record { first = c.args.first; end = c.args.end; blocks = bs })
    (all_free _ _ _ (λ b low high. c.loop-block.invariant.on b low (omega arith)))
