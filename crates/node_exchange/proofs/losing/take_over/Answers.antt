use Rattle.std.proofs.Common.{arith, length, subst, sym}
use Rattle.edge_disk.specs.Moments.{LeavesOnly}
use Rattle.kernel_invariant.proofs.Stretches.{leaves_map}
use Rattle.node_exchange.proofs.Playing.{in_order}
use Rattle.node_exchange.proofs.Taking.{acked_behind}
use Rattle.node_standby.specs.Following.{IsImageBetween, most_in}
use Rattle.node_standby.specs.Outliving.{Outlives}
use Rattle.node_exchange.proofs.losing.take_over.Goals as goal

pub returns-clause-acked : goal.returns-clause-acked
returns-clause-acked g c =
    let e = c.exchange.ensures in
    let up = acked_behind c.args.made.now c.args.events.now c.args.lines c.exchange.new.lines c.args.standby c.exchange.new.standby c.exchange.result e.played e.err in
    let all = c.acked-acked.ensures in
    omega (arith, up, all)

pub returns-clause-survives : goal.returns-clause-survives
returns-clause-survives g c t b es fs gs e image follows ships split is enough may =
    let now = c.exchange.new.standby in
    let left = subst (λ disk. g.D.Disk.may_leave disk image) c.into_disk.ensures may in
    let between = c.image_law.ensures b es now image t (c.exchange.ensures.takes.follows b es follows ships) left in
    let low = between.at_least in
    let acked = c.exchange.ensures.order.acked in
    let all = c.acked-acked.ensures in
    c.takeover_law.ensures b es fs gs e between.k image follows.begins follows.legal split is (omega (arith, enough, all, acked, low)) between.image

pub returns-clause-throughout : goal.returns-clause-throughout
returns-clause-throughout g c t b es fs gs e follows ships split is enough =
    let now = c.exchange.new.standby in
    let acked = (in_order c.args.lines c.args.standby.count (length c.args.made.now) c.requires.step).acked in
    subst (λ disk. LeavesOnly g.D.Disk c.args.standby.store.disk disk (Outlives b es fs)) (sym c.into_disk.ensures)
    (leaves_map g.D.Disk c.args.standby.store.disk now.store.disk (IsImageBetween b es c.args.standby.count (most_in now)) (Outlives b es fs)
    (λ image between. let low = between.at_least in c.takeover_law.ensures b es fs gs e between.k image follows.begins follows.legal split is (omega (arith, enough, acked, low)) between.image)
    (c.exchange.ensures.takes.moments t b es follows ships))
