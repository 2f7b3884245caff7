use Rattle.std.proofs.Common.{◌≡◌, get_or, slice_get, Some, refl, sym, ap, subst, ◌∙◌, inl, inr, arith}
use Rattle.std.proofs.lemmas.Option.{slice_get-get_or}
use Rattle.thread_cell_steps.specs.table_laws.cell_plans.Plans.{IsPlanned}
use Rattle.thread_cell_steps.specs.table_laws.cell_plans.declared.plans.Reach.TheVariants as reach
use Rattle.thread_cell_steps.proofs.table_laws_lemmas.Facing.{ready_at}
use Rattle.thread_cell_steps.proofs.Touching.{directory_in}
use Rattle.thread_step_clients.proofs.advancing.advance_lent.Goals as goal

pub next_plan-requires : goal.next_plan-requires
next_plan-requires g c =
    let cs = c.args.cells.now in
    let count = c.requires.may.orderly.numbers.len in
    let a = get_or cs c.number.result c.index-cells-number.result in
    let is : slice_get cs c.args.me ≡ Some (get_or cs c.number.result c.index-cells-number.result) =
    ap (slice_get cs) (sym c.number.ensures.number) ∙ slice_get-get_or cs c.number.result c.index-cells-number.result (omega (arith, count, c.number.ensures.small)) in
    record { ready = λ l at. ready_at (g.B.PageStore.held c.args.store.now) cs c.requires.may.orderly c.args.me a l is at }

pub lend_locus-requires-clause-touches : goal.lend_locus-requires-clause-touches
lend_locus-requires-clause-touches g c =
    let cs = c.args.cells.now in
    let count = c.requires.may.orderly.numbers.len in
    let a = get_or cs c.number.result c.index-cells-number.result in
    let is : slice_get cs c.args.me ≡ Some (get_or cs c.number.result c.index-cells-number.result) =
    ap (slice_get cs) (sym c.number.ensures.number) ∙ slice_get-get_or cs c.number.result c.index-cells-number.result (omega (arith, count, c.number.ensures.small)) in
    inl (record { cell = a; is = is; why = c.in-Err.field-0; idle = c.in-Err.ensures.idle })

pub lend_locus-requires-in-Alone-clause-touches : goal.lend_locus-requires-in-Alone-clause-touches
lend_locus-requires-in-Alone-clause-touches g c =
    let cs = c.args.cells.now in
    let count = c.requires.may.orderly.numbers.len in
    let a = get_or cs c.number.result c.index-cells-number.result in
    let is : slice_get cs c.args.me ≡ Some (get_or cs c.number.result c.index-cells-number.result) =
    ap (slice_get cs) (sym c.number.ensures.number) ∙ slice_get-get_or cs c.number.result c.index-cells-number.result (omega (arith, count, c.number.ensures.small)) in
    let f = directory_in (g.B.PageStore.held c.args.store.now) cs c.requires.may.orderly a in
    inr (record {
      directory = f.0;
      has = f.1;
      instr = c.in-Ok.field-0.instr;
      reach = reach.Alone c.in-Alone.field-0;
      planned = record { cell = a; is = is; plan = subst (IsPlanned a c.in-Ok.field-0.instr) c.in-Alone.is c.in-Ok.ensures.plans };
      these = refl;
    })

pub lend_beside-requires-clause-planned : goal.lend_beside-requires-clause-planned
lend_beside-requires-clause-planned g c =
    let cs = c.args.cells.now in
    let count = c.requires.may.orderly.numbers.len in
    let a = get_or cs c.number.result c.index-cells-number.result in
    let is : slice_get cs c.args.me ≡ Some (get_or cs c.number.result c.index-cells-number.result) =
    ap (slice_get cs) (sym c.number.ensures.number) ∙ slice_get-get_or cs c.number.result c.index-cells-number.result (omega (arith, count, c.number.ensures.small)) in
    (c.in-Ok.field-0.instr, record { cell = a; is = is; plan = subst (IsPlanned a c.in-Ok.field-0.instr) c.in-Beside.is c.in-Ok.ensures.plans })

pub lend_container-requires-clause-planned : goal.lend_container-requires-clause-planned
lend_container-requires-clause-planned g c =
    let cs = c.args.cells.now in
    let count = c.requires.may.orderly.numbers.len in
    let a = get_or cs c.number.result c.index-cells-number.result in
    let is : slice_get cs c.args.me ≡ Some (get_or cs c.number.result c.index-cells-number.result) =
    ap (slice_get cs) (sym c.number.ensures.number) ∙ slice_get-get_or cs c.number.result c.index-cells-number.result (omega (arith, count, c.number.ensures.small)) in
    (c.in-Ok.field-0.instr, record { cell = a; is = is; plan = subst (IsPlanned a c.in-Ok.field-0.instr) c.in-Look.is c.in-Ok.ensures.plans })

pub lend_both-requires-clause-touches : goal.lend_both-requires-clause-touches
lend_both-requires-clause-touches g c =
    let cs = c.args.cells.now in
    let count = c.requires.may.orderly.numbers.len in
    let a = get_or cs c.number.result c.index-cells-number.result in
    let is : slice_get cs c.args.me ≡ Some (get_or cs c.number.result c.index-cells-number.result) =
    ap (slice_get cs) (sym c.number.ensures.number) ∙ slice_get-get_or cs c.number.result c.index-cells-number.result (omega (arith, count, c.number.ensures.small)) in
    let f = directory_in (g.B.PageStore.held c.args.store.now) cs c.requires.may.orderly a in
    record {
      directory = f.0;
      has = f.1;
      instr = c.in-Ok.field-0.instr;
      reach = reach.Mapping c.in-Mapping.container;
      planned = record { cell = a; is = is; plan = subst (IsPlanned a c.in-Ok.field-0.instr) c.in-Mapping.is c.in-Ok.ensures.plans };
      these = refl;
    }

pub lend_made-requires-clause-planned : goal.lend_made-requires-clause-planned
lend_made-requires-clause-planned g c =
    let cs = c.args.cells.now in
    let count = c.requires.may.orderly.numbers.len in
    let a = get_or cs c.number.result c.index-cells-number.result in
    let is : slice_get cs c.args.me ≡ Some (get_or cs c.number.result c.index-cells-number.result) =
    ap (slice_get cs) (sym c.number.ensures.number) ∙ slice_get-get_or cs c.number.result c.index-cells-number.result (omega (arith, count, c.number.ensures.small)) in
    (c.in-Ok.field-0.instr, record { cell = a; is = is; plan = subst (IsPlanned a c.in-Ok.field-0.instr) c.in-Make.is c.in-Ok.ensures.plans })

pub lend_spawned-requires-clause-planned : goal.lend_spawned-requires-clause-planned
lend_spawned-requires-clause-planned g c =
    let cs = c.args.cells.now in
    let count = c.requires.may.orderly.numbers.len in
    let a = get_or cs c.number.result c.index-cells-number.result in
    let is : slice_get cs c.args.me ≡ Some (get_or cs c.number.result c.index-cells-number.result) =
    ap (slice_get cs) (sym c.number.ensures.number) ∙ slice_get-get_or cs c.number.result c.index-cells-number.result (omega (arith, count, c.number.ensures.small)) in
    (c.in-Ok.field-0.instr, record { cell = a; is = is; plan = subst (IsPlanned a c.in-Ok.field-0.instr) c.in-Spawn.is c.in-Ok.ensures.plans })
