use Rattle.cell_plans.proofs.Idling.{not_idle}
use Rattle.cell_plans.proofs.plans.next_plan.Goals as goal

pub plan_running-requires : goal.plan_running-requires
plan_running-requires c =
    let cell = c.args.cell.now in
    let goes = not_idle cell.left cell.part c.in-None.ensures in
    (goes.locus, record { is = goes.is; runs = goes.runs; ready = c.requires.ready goes.locus goes.is })

pub returns-in-None-clause-plans : goal.returns-in-None-clause-plans
returns-in-None-clause-plans c =
    let cell = c.args.cell.now in
    let goes = not_idle cell.left cell.part c.in-None.ensures in
    let run = c.plan_running.ensures in
    record { locus = run.0; runs = run.1; left = goes.some; instr = run.2; wants = run.3 }
