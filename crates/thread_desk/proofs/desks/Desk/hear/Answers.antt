use Rattle.std.proofs.Common.{◌≡◌, ◌++◌, sym, subst}
use Rattle.kernel_core.specs.kernel_core_facts.kernel_invariant.Beginnings.{state_after}
use Rattle.kernel_core.specs.kernel_core_facts.kernel_record_facts.Cells.{words_on}
use Rattle.kernel_core.specs.kernel_core_facts.store_facts.State.{State}
use Rattle.kernel_core.specs.kernel_core_facts.table_laws.Tables.{entity_by}
use Rattle.thread_desk.specs.Sights.{IsSighted, Sighted, sighted}
use Rattle.thread_desk.proofs.Hearing.{heard, known_cells, same_desk, with_store}
use Rattle.thread_desk.proofs.desks.Desk.hear.Goals as goal

pub hear_lent-requires : goal.hear_lent-requires
hear_lent-requires g c =
    let k = with_store g.D.Disk g.B.Board.begin g.B.Board.terms g.B.Run.kept c.self.inside.stores c.self.inside.cells c.self.inside.notes c.self.inside.annals c.self.inside.stopped c.till.inside.fragment.number c.till.inside.fragment.value c.till.inside.store
    c.till.invariant.0 c.till.invariant.1 c.agree.ensures.agreed c.self.invariant in
    record { known = known_cells g.D.Disk g.B.Board.begin g.B.Board.terms g.B.Run.kept c.self.inside.stores c.self.inside.cells c.self.inside.notes c.self.inside.annals c.self.inside.stopped c.till.inside.store k }

pub invariant_of-self : goal.invariant_of-self
invariant_of-self g c =
    same_desk g.D.Disk g.B.Board.begin g.B.Board.terms g.B.Run.kept c.self.inside.stores c.agree.new.self c.self.inside.cells c.hear_lent.new.all c.self.inside.notes c.self.inside.annals c.hear_lent.new.annals c.self.inside.stopped
    c.agree.ensures.authority c.hear_lent.ensures.same.0 c.hear_lent.ensures.same.1 c.self.invariant

pub invariant_of-cell : goal.invariant_of-cell
invariant_of-cell g c =
    subst (λ (z : State g.row.D.Denot). IsSighted g.D.Disk g.B.Board.terms.told g.B.Board.begin g.B.Run.kept (sighted c.hear_lent.new.cell z)) (sym c.hear_lent.ensures.seen) c.hear_lent.ensures.sighted

pub returns-clause-state : goal.returns-clause-state
returns-clause-state g c = λ told.
    let st = c.till.inside.store in
    let k = with_store g.D.Disk g.B.Board.begin g.B.Board.terms g.B.Run.kept c.self.inside.stores c.self.inside.cells c.self.inside.notes c.self.inside.annals c.self.inside.stopped c.till.inside.fragment.number c.till.inside.fragment.value c.till.inside.store
    c.till.invariant.0 c.till.invariant.1 c.agree.ensures.agreed c.self.invariant in
    let l = c.cell.inside.locked in
    let is = heard g.D.Disk g.B.Board.begin g.B.Board.terms g.B.Run.kept c.self.inside.stores c.self.inside.cells c.self.inside.notes c.self.inside.annals c.self.inside.stopped st k
    l.known l.number l.cell told c.hear_lent.ensures.stands c.hear_lent.ensures.begins c.hear_lent.ensures.unwritten c.known_state_law.ensures.known in
    subst (λ (s : Sighted g.row.D.Denot). entity_by g.B.Board.begin.supply (words_on (g.D.Disk.reading c.args.till.now.disk)) s.cell ≡ state_after g.B.Board.begin (g.B.Run.kept ++ s.known) s.number) c.cell.view_is
    (subst (λ (z : State g.row.D.Denot). entity_by g.B.Board.begin.supply (words_on (g.D.Disk.reading z.disk)) l.cell ≡ state_after g.B.Board.begin (g.B.Run.kept ++ l.known) l.number) c.till.view_is is)
