use Rattle.thread_cells.proofs.Meeting.{met}
use Rattle.thread_commits.proofs.snapping.wishes_lent.Goals as goal

pub is_wished-requires-clause-newest : goal.is_wished-requires-clause-newest
is_wished-requires-clause-newest g c =
    let cs = c.args.all.now in
    let a = c.cell.inside.cell in
    (c.requires.founded a.clock.entity a (met cs c.cell.inside.fragment a.clock.entity a c.cell.invariant.0 c.cell.invariant.2 c.agree.ensures.agreed)).past
