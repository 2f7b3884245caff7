use Rattle.std.proofs.Common.{inr, sym, ◌∙◌}
use Rattle.node_rounds.proofs.Coming.{store_stops}
use Rattle.node_rounds.proofs.rounds.come.Goals as goal
use Rattle.node_standby.proofs.Standing.{counts_stay}

pub returns-in-Err-clause-stops : goal.returns-in-Err-clause-stops
returns-in-Err-clause-stops g c =
    let next = sym c.is_next.ensures ∙ c.if-not-is_next.false in
    let e = c.in-Err.ensures in (
      next,
      store_stops g.D.Disk c.args.shipped.now c.args.standby.now c.deliver-2.new.self c.in-Err.fault
          (λ n is. (e.untouched (inr (n, is)), (e.no_blocks n next).0 is)) (λ is. (e.cause.write_fault is).0) (λ is. (e.shut next).1 is) (λ is. e.cause.no_read is),
    )

pub returns-then-not-may_take-clause-counts : goal.returns-then-not-may_take-clause-counts
returns-then-not-may_take-clause-counts g c = counts_stay g.D.Disk c.args.standby.now
