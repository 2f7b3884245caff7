use Rattle.std.proofs.Common.{slice_get, sym, ap, ◌∙◌}
use Rattle.std.proofs.lemmas.Result.{IfErr-weaker}
use Rattle.table_laws.specs.cell_plans.Plans.{idle_of}
use Rattle.table_laws.specs.Tables.{left_of, entity_in}
use Rattle.table_laws.proofs.Facing.{ready_at}
use Rattle.thread_cells.specs.Locked.{Keeping}
use Rattle.thread_cells.proofs.Meeting.{met}
use Rattle.thread_cell_steps.proofs.steps.plan_lent.Goals as goal

pub next_plan-requires : goal.next_plan-requires
next_plan-requires g c =
    let a = c.locus.inside.cell in
    let is_a = met c.args.all.now c.locus.inside.fragment a.clock.entity a c.locus.invariant.0 c.locus.invariant.2 c.agree.ensures.agreed in
    record { ready = λ k is. ready_at c.requires.order.held c.args.all.now c.requires.order.orderly a.clock.entity a k is_a is }

pub returns-clause-idle : goal.returns-clause-idle
returns-clause-idle g c s words =
    let a = c.locus.inside.cell in
    let cs = c.args.all.now in
    let is_a = met cs c.locus.inside.fragment a.clock.entity a c.locus.invariant.0 c.locus.invariant.2 c.agree.ensures.agreed in
    let at = ap (slice_get cs) (sym (ap (λ (k : Keeping). k.number) c.locus.view_is)) ∙ is_a in
    IfErr-weaker c.next_plan.result _ _ (λ why idle. ap (λ o. idle_of (left_of o) (entity_in s words c.args.locus.now.number o).cell) at ∙ idle) (c.next_plan.ensures.idle s words)
