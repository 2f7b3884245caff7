use Rattle.std.proofs.Common.{sym, subst}
use Rattle.thread_cells.specs.Locked.{Keeping}
use Rattle.thread_desk_looks.specs.thread_desk.Sights.{IsSighted, sighted}
use Rattle.thread_desk_stables.proofs.lent.SightedCellLentCellInDesk.meet.Goals as goal

pub invariant_of-self : goal.invariant_of-self
invariant_of-self g c =
    subst (λ (k : Keeping). IsSighted g.D.Disk g.B.Board.terms.told g.B.Board.begin g.B.Run.kept (sighted k c.self.inside.seen.value)) (sym c.meet.ensures.cell) c.self.invariant
