use Rattle.std.proofs.Common.{◌∙◌, sym}
use Rattle.thread_board.proofs.Beginnings.{stop_whole}
use Rattle.thread_board.proofs.tills.Till.hear.Goals as goal

pub returns-clause-same : goal.returns-clause-same
returns-clause-same g c =
    let s = c.show_commits.ensures in
    sym c.note.view_is ∙ stop_whole g.C.Line.stops c.note.inside.seat.me.0.commits c.self.inside.seat.me.0.commits s.last c.note.invariant.3 s.begins ∙ c.self.view_is
