use Rattle.std.proofs.Common.{◌≡◌, ℕ, ◌+◌, Some, ap, sym, subst, ◌∙◌}
use Rattle.node_rounds.proofs.Coming.{ships_at}
use Rattle.node_rounds.proofs.rounds.round.Goals as goal

pub returns-in-Err-clause-follows : goal.returns-in-Err-clause-follows
returns-in-Err-clause-follows g c = λ b es follows ship.
    c.come_as_drawn.ensures.follows b es follows (ships_at b es c.args.sender.now c.args.standby.now.count c.args.sender.now.acked _ c.in-Some.shipped.now (ap (λ n. n + 1) c.acked-number.ensures) c.in-Some.ensures.some.0 ship)

pub returns-clause-follows : goal.returns-clause-follows
returns-clause-follows g c = λ b es follows ship.
    c.come_as_drawn.ensures.follows b es follows (ships_at b es c.args.sender.now c.args.standby.now.count c.args.sender.now.acked _ c.in-Some.shipped.now (ap (λ n. n + 1) c.acked-number.ensures) c.in-Some.ensures.some.0 ship)
