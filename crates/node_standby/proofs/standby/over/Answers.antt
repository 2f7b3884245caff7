use Rattle.std.proofs.Common.{◌∙◌}
use Rattle.node_standby.proofs.Opened.{follows_start}
use Rattle.node_standby.proofs.Standing.{standby_fresh}
use Rattle.node_standby.proofs.standby.over.Goals as goal

pub invariant_of-result : goal.invariant_of-result
invariant_of-result g c =
    standby_fresh g.D.Disk c.in-Ok-over.store c.args.synced.log c.in-Ok-over.ensures.over c.in-Ok-over.ensures.fresh c.requires.empty c.requires.synced.known.epoch c.in-Ok-over.ensures.empty

pub returns-in-Ok-over-clause-follows : goal.returns-in-Ok-over-clause-follows
returns-in-Ok-over-clause-follows g c b es right legal low =
    let none = c.in-Ok-over.ensures.over.recs ∙ c.requires.empty in
    follows_start g.D.Disk b es right legal c.in-Ok-over.store none c.in-Ok-over.ensures.fresh low (λ t. c.in-Ok-over.ensures.empty t none)
