use Rattle.std.proofs.Common.{◌≡◌, List, [], None, sym, subst, slice_set}
use Rattle.std.specs.Prelude.{◌↔◌, IfOk, IfSome}
use Rattle.kernel_core_facts.specs.cell_states.declared.cells.Cell.{Cell}
use Rattle.kernel_core_facts.specs.table_laws.Tables.{AreClean}
use Rattle.kernel_core_facts.specs.kernel_commit_facts.Parts.{parts_of}
use Rattle.kernel_core_facts.specs.kernel_commit_facts.Steady.{IsSteady}
use Rattle.kernel_core_facts.specs.kernel_record_facts.Cells.{words_on}
use Rattle.kernel_core_facts.specs.Looked.{IfMade, StepsOnce}
use Rattle.thread_cells.specs.Locked.{Keeping}
use Rattle.thread_cell_steps.specs.Advancing.{IsPlanOf, TouchesThese, WantsOthers}
use Rattle.thread_looks.proofs.Planned.{as_planned}
use Rattle.thread_looks.proofs.making.make_one.Goals as goal

pub plan_lent-planned-requires : goal.plan_lent-planned-requires
plan_lent-planned-requires g c = record { order = record { held = _; orderly = c.requires.steady.sound.matches.orderly } }

pub make_planned-requires : goal.make_planned-requires
make_planned-requires g c =
    let same = sym c.plan_lent-planned.ensures.same.0 in
    let st = c.args.store.now in
    record {
      planned = subst (λ (k : Keeping). IsPlanOf k.cell c.plan_lent-planned.result) (sym c.plan_lent-planned.ensures.same.1) c.plan_lent-planned.ensures.planned;
      keeps = c.requires.keeps;
      steady = subst (λ (cs : List Cell). IsSteady g.D.Disk (parts_of st cs c.args.notes.now)) same c.requires.steady;
      clean = λ told. subst (AreClean (g.S.Supplier.word c.args.gate.now.supply) (words_on (g.D.Disk.reading st.disk))) same (c.requires.clean told);
    }

pub returns-clause-all : goal.returns-clause-all
returns-clause-all g c =
    as_planned (λ cs k. c.make_planned.new.all ≡ slice_set cs k.number c.make_planned.new.locus.cell) c.plan_lent-planned.ensures.same c.make_planned.ensures.all

pub returns-clause-locus : goal.returns-clause-locus
returns-clause-locus g c =
    as_planned (λ cs k. (c.make_planned.new.locus.number ≡ k.number) × (c.make_planned.new.locus.known ≡ k.known)) c.plan_lent-planned.ensures.same c.make_planned.ensures.locus

pub returns-clause-unfit : goal.returns-clause-unfit
returns-clause-unfit g c =
    as_planned (λ cs k. (c.make_planned.result ≡ None) ↔ WantsOthers cs k.number []) c.plan_lent-planned.ensures.same c.make_planned.ensures.unfit

pub returns-clause-undone : goal.returns-clause-undone
returns-clause-undone g c =
    let new = parts_of c.make_planned.new.store c.make_planned.new.all c.make_planned.new.notes in
    as_planned (λ cs k. c.make_planned.result ≡ None → new ≡ parts_of c.args.store.now cs c.args.notes.now) c.plan_lent-planned.ensures.same c.make_planned.ensures.undone

pub returns-clause-makes : goal.returns-clause-makes
returns-clause-makes g c =
    let new = parts_of c.make_planned.new.store c.make_planned.new.all c.make_planned.new.notes in
    as_planned (λ cs k. IfSome c.make_planned.result (StepsOnce g.D.Disk (g.S.Supplier.word c.args.gate.now.supply) k.number (parts_of c.args.store.now cs c.args.notes.now) new)) c.plan_lent-planned.ensures.same c.make_planned.ensures.makes

pub returns-clause-touches : goal.returns-clause-touches
returns-clause-touches g c =
    as_planned (λ cs k. IfSome c.make_planned.result (λ came. IfOk came (λ o. IfMade o (TouchesThese cs k.number [])))) c.plan_lent-planned.ensures.same c.make_planned.ensures.touches
