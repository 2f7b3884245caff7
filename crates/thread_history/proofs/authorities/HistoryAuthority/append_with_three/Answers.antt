use Rattle.std.proofs.Common.{◌∷◌, [], sym}
use Rattle.thread_history.proofs.Ready.{ready_noted}
use Rattle.thread_history.proofs.authorities.HistoryAuthority.append_with_three.Goals as goal

pub append_three-requires-clause-ready : goal.append_three-requires-clause-ready
append_three-requires-clause-ready g c =
    ready_noted g.T.Item.concerns _ (c.args.a.now ∷ c.args.b.now ∷ c.args.c.now ∷ []) (c.note.new.share ∷ c.note-2.new.share ∷ c.note-3.new.share ∷ []) _ c.self.invariant.4 c.requires.shares
    (λ i. (sym c.note.ensures.share i).number ∷ (sym c.note-2.ensures.share i).number ∷ (sym c.note-3.ensures.share i).number ∷ [])
