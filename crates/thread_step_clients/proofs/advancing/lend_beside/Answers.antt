use Rattle.std.proofs.Common.{[], ◌∷◌, sym, ap, ◌∙◌}
use Rattle.thread_cell_steps.specs.table_laws.cell_plans.declared.plans.Reach.TheVariants as reach
use Rattle.thread_cell_steps.proofs.Touching.{directory_in}
use Rattle.thread_step_clients.proofs.advancing.lend_beside.Goals as goal

pub lend_atlas-requires-clause-touches : goal.lend_atlas-requires-clause-touches
lend_atlas-requires-clause-touches g c =
    let planned = c.requires.planned.1 in
    let f = directory_in (g.B.PageStore.held c.args.store.now) c.args.cells.now c.requires.may.orderly planned.cell in
    record {
      directory = f.0;
      has = f.1;
      instr = c.requires.planned.0;
      reach = reach.Beside c.args.other;
      planned = planned;
      these = ap (λ n. n ∷ []) (sym (sym c.number.ensures.number ∙ c.if-number-eq0.true));
    }
