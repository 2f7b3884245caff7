use Rattle.std.proofs.Common.{◌∙◌, refl, sym, ap}
use Rattle.thread_board.specs.Sides.{Noting, PassSeen}
use Rattle.thread_board.proofs.Within.{within_told}
use Rattle.thread_board.proofs.slips.Slip.tell.Goals as goal

pub tell_items-requires-clause-pass : goal.tell_items-requires-clause-pass
tell_items-requires-clause-pass g c = (c.pass.inside.number, ap (λ m. m.0.role) c.show_items.ensures.pass ∙ c.pass.invariant.2)

pub invariant_of-pass : goal.invariant_of-pass
invariant_of-pass g c =
    let s = c.show_items.ensures in
    let t = c.tell_items.ensures in
    let i = c.pass.invariant in (
      t.seats.1 ∙ s.seats.1 ∙ i.0,
      t.seats.2 ∙ ap (λ m. m.1) s.pass ∙ i.1,
      t.pass.0 ∙ ap (λ m. m.0.role) s.pass ∙ i.2,
      t.pass.1 ∙ ap (λ m. m.0.commits) s.pass ∙ i.3,
      i.4,
      within_told _ _ _ _ _ i.5 s.begins refl (sym (t.pass.2 ∙ s.slip.1)),
      i.6,
    )

pub returns-clause-within : goal.returns-clause-within
returns-clause-within g c =
    within_told _ _ _ _ _ c.pass.invariant.5 c.show_items.ensures.begins (ap (λ (p : PassSeen g.row.T.Denot). p.items) c.pass.view_is) (ap (λ (s : Noting g.row.C.Denot g.row.T.Denot). s.items) c.self.view_is)
