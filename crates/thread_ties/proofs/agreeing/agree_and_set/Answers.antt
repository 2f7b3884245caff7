use Rattle.std.proofs.Common.{◌∙◌, sym, ap}
use Rattle.atomic_table.specs.Table.{Me}
use Rattle.thread_ties.specs.declared.views.View.{View}
use Rattle.thread_ties.proofs.Meeting.{Agreed, agreed, may, piece_of, same_value, within}
use Rattle.thread_ties.proofs.agreeing.agree_and_set.Goals as goal

pub take_in-requires-clause-piece : goal.take_in-requires-clause-piece
take_in-requires-clause-piece g c =
    let v = λ (m : Me (Unit {0}) (View g.row.V.Denot)). m.0 in
    let w = λ (m : Me (Unit {0}) (View g.row.V.Denot)). m.1 in
    (c.hand_out-piece.ensures.piece.0 ∙ (c.requires.seats.1.0 ∙ sym c.requires.seats.0.0), ap w c.hand_out-piece.ensures.piece.1, piece_of _ _ c.requires.fragment (ap v c.hand_out-piece.ensures.piece.1))

pub tell-requires-clause-value : goal.tell-requires-clause-value
tell-requires-clause-value g c =
    let v = λ (m : Me (Unit {0}) (View g.row.V.Denot)). m.0 in
    may _ _ _ _ _ c.requires.authority c.requires.fragment (ap v c.hand_out-piece.ensures.piece.1) (ap v c.take_in.ensures.1)

both : (g : _) (c : goal.After-drop-fragment g) → Agreed g.E.NewValue.value c.args.authority.now.me.0 c.args.fragment.now.me.0 c.hand_out.new.seat.me.0 c.hand_out.result.me.0
both g c =
    let v = λ (m : Me (Unit {0}) (View g.row.V.Denot)). m.0 in
    agreed g.E.NewValue.value c.args.authority.now.me.0 c.args.fragment.now.me.0 c.hand_out-piece.result.me.0 c.take_in.new.seat.me.0 c.tell.new.seat.me.0 c.hand_out.new.seat.me.0 c.hand_out.result.me.0
    c.requires.authority c.requires.fragment
    (ap v c.hand_out-piece.ensures.piece.1)
    (ap v c.take_in.ensures.1)
    (ap v c.tell.ensures.seat.1)
    (ap v c.hand_out.ensures.seat.1)
    (ap v c.hand_out.ensures.piece.1)

pub returns-clause-authority : goal.returns-clause-authority
returns-clause-authority g c = let h = both g c in (h.0, h.1)

pub returns-clause-fragment : goal.returns-clause-fragment
returns-clause-fragment g c = let h = both g c in (h.2, h.3)

pub returns-clause-agreed : goal.returns-clause-agreed
returns-clause-agreed g c =
    let v = λ (m : Me (Unit {0}) (View g.row.V.Denot)). m.0 in
    same_value _ _ _ _ c.requires.authority c.requires.fragment (ap v c.hand_out-piece.ensures.piece.1) (ap v c.take_in.ensures.1) c.tell.ensures.held

pub returns-clause-number : goal.returns-clause-number
returns-clause-number g c =
    let v = λ (m : Me (Unit {0}) (View g.row.V.Denot)). m.0 in
    within _ _ _ _ c.requires.authority c.requires.fragment (ap v c.hand_out-piece.ensures.piece.1) (ap v c.take_in.ensures.1) c.tell.ensures.held
