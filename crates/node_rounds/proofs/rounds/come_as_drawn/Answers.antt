use Rattle.std.proofs.Common.{ap}
use Rattle.node_rounds.proofs.Coming.{again}
use Rattle.node_rounds.proofs.rounds.come_as_drawn.Goals as goal
use Rattle.node_standby.proofs.Standing.{counts_stay, counts_then}
use Rattle.node_standby.specs.Standing.{Standing}

pub returns-then-draws-2-clause-follows : goal.returns-then-draws-2-clause-follows
returns-then-draws-2-clause-follows g c = λ b es follows at.
    c.come-then-draws-2.ensures.follows b es (c.come.ensures.follows b es follows at)
    (λ next. absurd (again c.args.standby.now.count c.come.new.standby.count c.args.number c.in_ok-come.ensures.taken (λ other. ap (λ (st : Standing _). st.count) (c.come.ensures.other other).1) next))

pub returns-then-draws-clause-counts : goal.returns-then-draws-clause-counts
returns-then-draws-clause-counts g c = counts_stay g.D.Disk c.args.standby.now

pub returns-then-draws-2-clause-counts : goal.returns-then-draws-2-clause-counts
returns-then-draws-2-clause-counts g c = counts_then g.D.Disk c.args.standby.now c.come.new.standby c.come-then-draws-2.new.standby c.come.ensures.counts c.come-then-draws-2.ensures.counts
