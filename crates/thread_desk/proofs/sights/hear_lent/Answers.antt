use Rattle.std.proofs.Common.{sym, subst, ◌∙◌}
use Rattle.base_types.specs.declared.histories.Entry.{Entry}
use Rattle.thread_cells.specs.Locked.{Keeping}
use Rattle.thread_history.specs.Sides.{Side}
use Rattle.thread_desk.specs.Sights.{IsSighted}
use Rattle.thread_desk.proofs.Hearing.{sight}
use Rattle.thread_desk.proofs.sights.hear_lent.Goals as goal

pub returns-clause-sighted : goal.returns-clause-sighted
returns-clause-sighted g c =
    let is = sight g.D.Disk g.B.Board.terms.told g.B.Board.begin g.B.Run.kept c.args.store.now c.args.all.now c.args.annals.now c.args.cell.now.number c.args.cell.now.cell c.requires.known c.meet.ensures.stands in
    let here = subst (λ (k : Keeping). IsSighted g.D.Disk g.B.Board.terms.told g.B.Board.begin g.B.Run.kept (record { number = k.number; cell = k.cell; known = c.args.annals.now; store = c.args.store.now })) (sym (c.cell.view_is ∙ c.meet.ensures.cell)) is in
    subst (λ (s : Side Entry). IsSighted g.D.Disk g.B.Board.terms.told g.B.Board.begin g.B.Run.kept (record { number = c.cell.inside.cell.clock.entity; cell = c.cell.inside.cell; known = s.since; store = c.args.store.now })) (sym c.note.ensures.share) here
