use Rattle.std.proofs.Common.{ap}
use Rattle.atomic_table.specs.Table.{Me}
use Rattle.thread_history.specs.declared.views.View.{View}
use Rattle.thread_history.proofs.Telling.{both_announced}
use Rattle.thread_history.proofs.sides.announce_to.Goals as goal

pub returns-clause-told : goal.returns-clause-told
returns-clause-told g c x is =
    let v = λ (m : Me (Unit {0}) (View g.row.T.Denot)). m.0 in
    let known = c.requires.told x is in
    both_announced g.T.Item.concerns x _ _ _ _ _ _ _ c.requires.chronicle known.0 known.1 c.requires.same
    (ap v c.announce.ensures.1)
    (ap v c.cut_note-of_share.ensures.seat.1)
    (ap v c.cut_note-of_share.ensures.note.1)
    (ap v c.take_in.ensures.1)
