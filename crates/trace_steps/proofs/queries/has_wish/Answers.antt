use Rattle.std.proofs.Common.{◌-◌, ◌&&◌, ◌||◌, ap, sym, ◌∙◌, arith, slice_index}
use Rattle.trace_step_facts.specs.data_cut_facts.Searches.{mark_at}
use Rattle.trace_steps.proofs.Wanting.{wish_same}
use Rattle.trace_steps.proofs.queries.has_wish.Goals as goal

pub returns : goal.returns
returns g c = λ s script r k.
    let at = c.number-x.ensures.number in
    let small = c.number-x.ensures.small in
    let checker = c.args.checker.now in
    wish_same s script r checker k g.p c.args.entity c.every_at-every.result (omega (arith, at, small)) (c.every_at-every.ensures s)
    ∙ ap (λ n. mark_at checker.wishes.by_step n && g.p c.every_at-every.result (slice_index checker.versions n - slice_index checker.wishes.newest n) || mark_at checker.wishes.asked n) (sym at)
    ∙ sym c.is_open.ensures
