use Rattle.std.proofs.Common.{◌≡◌, slice_get, Some, sym, ap, ◌∙◌, arith}
use Rattle.std.proofs.lemmas.Option.{slice_get-get_or}
use Rattle.table_laws.proofs.Facing.{ready_at}
use Rattle.table_steps.proofs.Planning.{err_along, next_here, ok_idle, planned_here}
use Rattle.table_steps.proofs.stepping.plan_at.Goals as goal

pub next_plan-requires : goal.next_plan-requires
next_plan-requires c =
    let cs = c.args.cells.now in
    let orderly = c.requires.order.orderly in
    let count = orderly.numbers.len in
    let cell = c.index-cells-number.result in
    let here : slice_get cs c.args.me ≡ Some c.index-cells-number.result =
    ap (slice_get cs) (sym c.number.ensures.number) ∙ slice_get-get_or cs c.number.result c.index-cells-number.result (omega (arith, c.number.ensures.small)) ∙ ap Some (sym c.index-cells-number.is) in
    record { ready = λ l is. ready_at c.requires.order.held cs orderly c.args.me cell l here is }

pub returns-clause-idle : goal.returns-clause-idle
returns-clause-idle c s words =
    let cs = c.args.cells.now in
    let orderly = c.requires.order.orderly in
    let count = orderly.numbers.len in
    let cell = c.index-cells-number.result in
    let here : slice_get cs c.args.me ≡ Some c.index-cells-number.result =
    ap (slice_get cs) (sym c.number.ensures.number) ∙ slice_get-get_or cs c.number.result c.index-cells-number.result (omega (arith, c.number.ensures.small)) ∙ ap Some (sym c.index-cells-number.is) in
    err_along s words cs c.args.me cell here c.next_plan.result (c.next_plan.ensures.idle s words)

pub returns-clause-goes : goal.returns-clause-goes
returns-clause-goes c s words =
    let cs = c.args.cells.now in
    let orderly = c.requires.order.orderly in
    let count = orderly.numbers.len in
    let cell = c.index-cells-number.result in
    let here : slice_get cs c.args.me ≡ Some c.index-cells-number.result =
    ap (slice_get cs) (sym c.number.ensures.number) ∙ slice_get-get_or cs c.number.result c.index-cells-number.result (omega (arith, c.number.ensures.small)) ∙ ap Some (sym c.index-cells-number.is) in
    ok_idle s words cs c.args.me cell here c.next_plan.result (c.next_plan.ensures.goes s words)

pub returns-clause-plans : goal.returns-clause-plans
returns-clause-plans c =
    let cs = c.args.cells.now in
    let orderly = c.requires.order.orderly in
    let count = orderly.numbers.len in
    let cell = c.index-cells-number.result in
    let here : slice_get cs c.args.me ≡ Some c.index-cells-number.result =
    ap (slice_get cs) (sym c.number.ensures.number) ∙ slice_get-get_or cs c.number.result c.index-cells-number.result (omega (arith, c.number.ensures.small)) ∙ ap Some (sym c.index-cells-number.is) in
    planned_here cs c.args.me cell here c.next_plan.result c.next_plan.ensures.plans

pub returns-clause-next : goal.returns-clause-next
returns-clause-next c =
    let cs = c.args.cells.now in
    let orderly = c.requires.order.orderly in
    let count = orderly.numbers.len in
    let cell = c.index-cells-number.result in
    let here : slice_get cs c.args.me ≡ Some c.index-cells-number.result =
    ap (slice_get cs) (sym c.number.ensures.number) ∙ slice_get-get_or cs c.number.result c.index-cells-number.result (omega (arith, c.number.ensures.small)) ∙ ap Some (sym c.index-cells-number.is) in
    next_here cs c.args.me cell here c.next_plan.result c.next_plan.ensures.plans
