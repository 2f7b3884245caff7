use Rattle.std.specs.Prelude.{slice_index}
use Rattle.node_mirror.proofs.Shipping.{ships_shown}
use Rattle.node_mirror.proofs.offering.offer_shown.Goals as goal
use Rattle.node_rounds.specs.node_standby.node_shipments.kernel_invariant.Beginnings.{completed}

pub returns-clause-ships : goal.returns-clause-ships
returns-clause-ships g c = λ told b es shows knows ship all.
    let k = c.args.kernel.now in
    c.offer.ensures.ships told b (completed b es) shows.lives (c.shown_commits_law.ensures.shown b es k (slice_index c.args.known.now) shows knows) (ships_shown g.D.Disk b es k shows c.args.sender.now ship) all
