use Rattle.std.proofs.Common.{◌≡◌, ap}
use Rattle.atomic_table.specs.Table.{Me}
use Rattle.thread_history.specs.declared.views.View.{View}
use Rattle.thread_history.specs.Seats.{IsChronicle, Heard}
use Rattle.thread_history.proofs.Telling.{both_heard}
use Rattle.thread_history.proofs.sides.hear.Goals as goal

heard : (g : _) (c : goal.After-look-2 g) → Heard g.T.Item.concerns c.args.chronicle.now.me.0.since c.args.share.now.me.0 c.look-2.new.seat.me.0 × IsChronicle g.T.Item.concerns c.cut_note-of_chronicle.new.seat.me.0 × (c.cut_note-of_chronicle.new.seat.me.0.since ≡ c.args.chronicle.now.me.0.since)
heard g c =
    let v = λ (m : Me (Unit {0}) (View g.row.T.Denot)). m.0 in
    both_heard g.T.Item.concerns _ _ _ _ _ _ _ _ _ _ c.requires.chronicle c.requires.share
    (ap v c.cut_note-of_share.ensures.seat.1)
    (ap v c.cut_note-of_share.ensures.note.1)
    (ap v c.take_in.ensures.1)
    (ap v c.look.ensures.1)
    c.look.ensures.2
    (ap v c.cut_note-of_chronicle.ensures.seat.1)
    (ap v c.cut_note-of_chronicle.ensures.note.1)
    (ap v c.take_in-2.ensures.1)
    (ap v c.look-2.ensures.1)
    c.look-2.ensures.2

pub returns-clause-chronicle : goal.returns-clause-chronicle
returns-clause-chronicle g c = let h = heard g c in (h.1, h.2)

pub returns-clause-share : goal.returns-clause-share
returns-clause-share g c = (heard g c).0
