use Rattle.std.proofs.Common.{◌==◌, if◌then◌else◌, ap, ◌∙◌}
use Rattle.data_stamps.specs.Stamps.{component}
use Rattle.trace_state.specs.Clocks.{clock_at}
use Rattle.trace_state.specs.declared.clocks.Clocks.{Clocks}
use Rattle.trace_state.proofs.Joining.{written_more, read_more}
use Rattle.trace_state.proofs.clocks.Clocks.take_in.Goals as goal
use Rattle.trace_state.proofs.clocks.Clocks.take_in.Goals.{then-touch, else-touch}

pub loop-touch-preserved : goal.loop-touch-preserved
loop-touch-preserved c =
    let ts = c.as_slice-touches.result.now in
    let k = c.loop-touch.touch-index in
    let t = c.touch-item.result in
    elim c.if-touch.branch [
      | then-touch w ↦ λ x y low.
          written_more ts k x t (clock_at c.if-touch.self x y) (clock_at c.loop-touch.self x y) (component c.joined-stamp.result y) (clock_at c.args.self.now x y) c.loop-touch-test.true c.touch-item.is w.if-touch.true
          (ap (λ (q : Clocks). clock_at q x y) w.self-is ∙ w.put.ensures x y low ∙ ap (λ n. if n == x then component c.joined-stamp.result y else clock_at c.loop-touch.self x y) w.number.ensures.number)
          (c.loop-touch.invariant x y low)
      | else-touch w ↦ λ x y low.
          ap (λ (q : Clocks). clock_at q x y) w.self-is
          ∙ read_more ts k x t (clock_at c.loop-touch.self x y) (component c.joined-stamp.result y) (clock_at c.args.self.now x y) c.loop-touch-test.true c.touch-item.is w.if-touch.false (c.loop-touch.invariant x y low)
    ]
