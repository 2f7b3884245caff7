use Rattle.std.proofs.Common.{◌≡◌, ap}
use Rattle.atomic_table.specs.Table.{Me}
use Rattle.thread_history.specs.declared.views.View.{View}
use Rattle.thread_history.specs.Seats.{IsChronicle}
use Rattle.thread_history.proofs.Telling.{both_caught_up}
use Rattle.thread_history.proofs.sides.catch_up.Goals as goal

caught : (g : _) (c : goal.After-take_in g) → IsChronicle g.T.Item.concerns c.cut_note-note.new.seat.me.0 × (c.cut_note-note.new.seat.me.0.since ≡ c.args.chronicle.now.me.0.since) × (c.take_in.new.seat.me.0.role ≡ c.args.share.now.me.0.role) × (c.take_in.new.seat.me.0.since ≡ c.args.chronicle.now.me.0.since) × (c.take_in.new.seat.me.0.list ≡ c.args.share.now.me.0.list)
caught g c =
    let v = λ (m : Me (Unit {0}) (View g.row.T.Denot)). m.0 in
    both_caught_up g.T.Item.concerns c.requires.share.0 c.args.chronicle.now.me.0 c.args.share.now.me.0 c.cut_note-note.new.seat.me.0 c.cut_note-note.result.me.0 c.take_in.new.seat.me.0 c.requires.chronicle c.requires.share.1 c.requires.begins
    (ap v c.cut_note-note.ensures.seat.1)
    (ap v c.cut_note-note.ensures.note.1)
    (ap v c.take_in.ensures.1)

pub returns-clause-chronicle : goal.returns-clause-chronicle
returns-clause-chronicle g c = let h = caught g c in (h.0, h.1)

pub returns-clause-share : goal.returns-clause-share
returns-clause-share g c = let h = caught g c in (h.2, h.3, h.4)
