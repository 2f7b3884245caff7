use Rattle.std.proofs.Common.{ℕ, ◌≡◌, ◌+◌, ◌<◌, ◌^◌, ◌∙◌, true, [], sym, ap, subst}
use Rattle.atomic_table.specs.Table.{Me}
use Rattle.thread_history.specs.declared.views.View.{View}
use Rattle.thread_history.specs.Rules.{note_role}
use Rattle.thread_history.specs.Seats.{IsChronicle, IsShareOf}
use Rattle.thread_history.proofs.Telling.{both_enrolled}
use Rattle.thread_history.proofs.sides.enrol_next.Goals as goal

pub enrol-requires-clause-note : goal.enrol-requires-clause-note
enrol-requires-clause-note g c = ap (λ (m : Me (Unit {0}) (View g.row.T.Denot)). m.0.role) c.cut_note-share.ensures.note.1 ∙ ap note_role c.requires.chronicle.0.role

pub enrol-requires-clause-right : goal.enrol-requires-clause-right
enrol-requires-clause-right g c = let e = c.cut_note-share.ensures.note.1 in (ap (λ (m : Me (Unit {0}) (View g.row.T.Denot)). m.0.enrols) e ∙ c.requires.right.0, subst (λ (n : ℕ). n < 2 ^ 62) (sym (ap (λ (m : Me (Unit {0}) (View g.row.T.Denot)). m.0.shares) e)) c.requires.right.1)

enrolled : (g : _) (c : goal.After-take_in g) → (let d = c.take_in.new.seat.me.0 in let s = c.args.chronicle.now.me.0 in let t = c.cut_note-right.new.seat.me.0 in
    IsChronicle g.T.Item.concerns d × (d.since ≡ []) × (d.enrols ≡ true) × (d.shares ≡ s.shares + 1) × IsShareOf g.T.Item.concerns s.shares t × (t.since ≡ []))
enrolled g c =
    let v = λ (m : Me (Unit {0}) (View g.row.T.Denot)). m.0 in
    both_enrolled g.T.Item.concerns c.args.chronicle.now.me.0 c.cut_note-share.new.seat.me.0 c.cut_note-share.result.me.0 c.enrol.new.seat.me.0 c.cut_note-right.new.seat.me.0 c.cut_note-right.result.me.0 c.take_in.new.seat.me.0 c.enrol.result
    c.requires.chronicle.0 c.requires.chronicle.1 c.requires.right.0
    (ap v c.cut_note-share.ensures.seat.1)
    (ap v c.cut_note-share.ensures.note.1)
    (ap v c.enrol.ensures.1)
    c.enrol.ensures.2
    (ap v c.cut_note-right.ensures.seat.1)
    (ap v c.cut_note-right.ensures.note.1)
    (ap v c.take_in.ensures.1)

pub returns-clause-chronicle : goal.returns-clause-chronicle
returns-clause-chronicle g c = let h = enrolled g c in (h.0, h.1)

pub returns-clause-right : goal.returns-clause-right
returns-clause-right g c = let h = enrolled g c in (h.2, h.3)

pub returns-clause-share : goal.returns-clause-share
returns-clause-share g c = let h = enrolled g c in (h.4, h.5)
