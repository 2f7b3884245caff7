use Rattle.std.proofs.Common.{◌≡◌, ℕ, arith, count_by, subst}
use Rattle.base_types.specs.Edges.{upto}
use Rattle.node_looks.proofs.Flags.{count_low}
use Rattle.node_looks.specs.Counting.{has_record}
use Rattle.node_looks.proofs.counting.count_recorded.Goals as goal

pub overflow_add-count : goal.overflow_add-count
overflow_add-count c =
    let low = count_low (has_record c.args.cells.now) c.loop-number.number in
    let is = c.loop-number.invariant in
    let lt = c.loop-number-test.true in
    omega (arith, low, is, lt)

pub returns : goal.returns
returns c =
    let end : c.loop-number.number ≡ 64 = omega arith in
    subst (λ (n : ℕ). c.loop-number.count ≡ count_by (has_record c.args.cells.now) (upto n)) end c.loop-number.invariant
