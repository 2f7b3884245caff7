use Rattle.std.proofs.Common.{◌<◌, ◌≤◌, ap, subst, ◌∙◌}
use Rattle.node_exchange.proofs.Playing.{offered_next, offered_none}
use Rattle.node_exchange.proofs.Taking.{ok_map}
use Rattle.node_world.specs.Worlds.{with_offer}
use Rattle.node_exchange.proofs.exchanging.offer_next.Goals as goal

pub returns-then-next-made-clause-world : goal.returns-then-next-made-clause-world
returns-then-next-made-clause-world c count =
    let w = c.args.lines.now in
    let lt = subst (λ n. n < c.args.made) c.offered-next.ensures c.if-next-made.true in
    ok_map c.offer.result (λ is. offered_next w count c.args.made c.offer.new.self lt (is ∙ ap (λ n. record w { sender = with_offer w.sender n }) c.offered-next.ensures)) c.offer.ensures.offered

pub returns-else-next-made-clause-world : goal.returns-else-next-made-clause-world
returns-else-next-made-clause-world c count = offered_none c.args.lines.now count c.args.made (subst (λ n. c.args.made ≤ n) c.offered-next.ensures c.if-next-made.false)
