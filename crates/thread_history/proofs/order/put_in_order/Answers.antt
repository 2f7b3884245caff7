use Rattle.std.proofs.Common.{◌∙◌}
use Rattle.std.proofs.lemmas.List.Sorted.{IsPermutation-trans}
use Rattle.thread_history.proofs.Ordering.{found_again, placed}
use Rattle.thread_history.proofs.order.put_in_order.Goals as goal

pub place_of-place-requires : goal.place_of-place-requires
place_of-place-requires g c = found_again g.T.Numbered.number c.loop-number.number c.args.things.now c.loop-number.things c.loop-number.invariant.0 (c.requires c.loop-number.number c.loop-number-test.true)

pub loop-number-preserved : goal.loop-number-preserved
loop-number-preserved g c = (IsPermutation-trans _ c.loop-number.things c.swap.new.self c.loop-number.invariant.0 c.swap.ensures.permutation, c.swap.ensures.len ∙ c.loop-number.invariant.1, placed g.T.Numbered.number c.loop-number.things _ c.loop-number.number c.place_of-place.result c.swap.ensures.by_index c.place_of-place.ensures.number c.loop-number.invariant.2)
