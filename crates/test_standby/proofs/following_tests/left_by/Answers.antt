use Rattle.std.proofs.Common.{length, subst, sym}
use Rattle.node_exchange.specs.Wires.{AreInStep}
use Rattle.test_standby.proofs.following_tests.left_by.Goals as goal

-- a standby that is opened has taken nothing
pub take_over-requires : goal.take_over-requires
take_over-requires g c = record {
  step = subst (λ n. AreInStep c.new-lines.result n (length c.args.made.now)) (sym c.in_ok-second.ensures) (c.new-lines.ensures.step (length c.args.made.now));
}
