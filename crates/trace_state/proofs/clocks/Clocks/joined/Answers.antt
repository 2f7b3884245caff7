use Rattle.std.proofs.Common.{arith, ◌==◌, if◌then◌else◌, max, ap, ◌∙◌}
use Rattle.data_stamps.specs.Stamps.{component}
use Rattle.trace_state.specs.Clocks.{clock_at}
use Rattle.trace_state.proofs.Joining.{joined_more}
use Rattle.trace_state.proofs.clocks.Clocks.joined.Goals as goal

pub loop-touch-init : goal.loop-touch-init
loop-touch-init c = λ y. (let z = c.new-stamp.ensures y in omega (arith, z))

pub loop-touch-preserved : goal.loop-touch-preserved
loop-touch-preserved c = λ y.
    joined_more (clock_at c.args.self.now) c.args.touched.now c.loop-touch.touch-index y (component c.loop-touch.stamp y) _ _ c.touch-item.result c.loop-touch-test.true c.touch-item.is
    (c.join.ensures y
    ∙ ap (λ n. max (max (component c.loop-touch.stamp y) n) (if c.touch-item.result.entity == y then c.touch-item.result.version else 0)) (c.at-other.ensures y ∙ ap (λ x. clock_at c.args.self.now x y) c.number.ensures.number))
    (c.loop-touch.invariant y)
