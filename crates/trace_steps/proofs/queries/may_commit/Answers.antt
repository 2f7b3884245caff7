use Rattle.std.proofs.Common.{true, ap, ◌∙◌, arith}
use Rattle.trace_step_facts.specs.data_cut_facts.Searches.{mark_at}
use Rattle.trace_steps.proofs.Wanting.{may_by_stable, may_by_wish}
use Rattle.trace_steps.proofs.queries.may_commit.Goals as goal

pub returns-then-has_wish : goal.returns-then-has_wish
returns-then-has_wish g c = λ s script r k.
    let at = c.number.ensures.number in
    let small = c.number.ensures.small in
    let checker = c.args.checker.now in
    may_by_wish s script r checker k g.p c.args.entity true (mark_at checker.wishes.full c.number.result) (omega (arith, at, small)) c.in-None.is (c.has_wish.ensures s script r k ∙ c.if-has_wish.true) (ap (mark_at checker.wishes.full) at)

pub returns-in-Some : goal.returns-in-Some
returns-in-Some g c = λ s script r k. may_by_stable s script r c.args.checker.now k g.p c.args.entity c.in-Some.field-0 c.is_next_changed.result c.in-Some.is c.is_next_changed.ensures
