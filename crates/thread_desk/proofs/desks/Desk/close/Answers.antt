use Rattle.std.proofs.Common.{List, sym, ap, subst}
use Rattle.base_types.specs.declared.histories.Entry.{Entry}
use Rattle.kernel_core.specs.kernel_core_facts.cell_states.declared.cells.Cell.{Cell}
use Rattle.kernel_core.specs.kernel_core_facts.store_facts.State.{State}
use Rattle.thread_desk.specs.Desks.{IsKernel, Knowing, knowing}
use Rattle.thread_desk.proofs.Hearing.{with_store}
use Rattle.thread_desk.proofs.desks.Desk.close.Goals as goal

pub returns-clause-kernel : goal.returns-clause-kernel
returns-clause-kernel g c =
    let st = c.till.inside.store in
    let k = with_store g.D.Disk g.B.Board.begin g.B.Board.terms g.B.Run.kept c.self.inside.stores c.self.inside.cells c.self.inside.notes c.self.inside.annals c.self.inside.stopped c.till.inside.fragment.number c.till.inside.fragment.value st
    c.till.invariant.0 c.till.invariant.1 c.agree.ensures.agreed c.self.invariant in
    subst (λ (ss : List (State g.row.D.Denot)). IsKernel g.D.Disk g.B.Board.begin g.B.Board.terms g.B.Run.kept (knowing ss c.closing.result.values c.self.inside.notes c.closing-2.result.since c.self.inside.stopped) c.till.inside.store)
    (ap (λ (w : Knowing g.row.D.Denot). w.stores) c.self.view_is)
    (subst (λ (cs : List Cell). IsKernel g.D.Disk g.B.Board.begin g.B.Board.terms g.B.Run.kept (knowing c.self.inside.stores cs c.self.inside.notes c.closing-2.result.since c.self.inside.stopped) c.till.inside.store) (sym c.closing.ensures.0)
    (subst (λ (es : List Entry). IsKernel g.D.Disk g.B.Board.begin g.B.Board.terms g.B.Run.kept (knowing c.self.inside.stores c.self.inside.cells c.self.inside.notes es c.self.inside.stopped) c.till.inside.store) (sym c.closing-2.ensures.0) k))
