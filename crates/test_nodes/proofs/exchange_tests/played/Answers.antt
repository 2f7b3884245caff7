use Rattle.std.proofs.Common.{length, subst, sym}
use Rattle.node_exchange.specs.Wires.{AreInStep}
use Rattle.test_nodes.proofs.exchange_tests.played.Goals as goal

-- a standby that is opened has taken nothing
pub exchange-requires : goal.exchange-requires
exchange-requires g c = record {
  step = subst (λ n. AreInStep c.new-lines.result n (length c.args.made.now)) (sym c.in_ok-second.ensures) (c.new-lines.ensures.step (length c.args.made.now));
}
