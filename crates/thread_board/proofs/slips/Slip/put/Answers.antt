use Rattle.std.proofs.Common.{◌≡◌, ◌≤◌, ◌∙◌, ◌++◌, ◌∷◌, [], length, refl, sym, ap, subst}
use Rattle.thread_board.specs.declared.views.PassItem.{PassItem}
use Rattle.thread_board.specs.Items.{AllOf, Each, IsWithin, IsRising}
use Rattle.thread_board.specs.Lines.{has_stop}
use Rattle.thread_board.specs.Sides.{Noting}
use Rattle.thread_board.proofs.Within.{within_begun, within_push, each_push, rising_push}
use Rattle.thread_board.proofs.slips.Slip.put.Goals as goal

pub tell_items-requires-clause-pass : goal.tell_items-requires-clause-pass
tell_items-requires-clause-pass g c = (c.pass.inside.number, ap (λ m. m.0.role) c.show_items.ensures.pass ∙ c.pass.invariant.2)

pub invariant_of-pass-2 : goal.invariant_of-pass-2
invariant_of-pass-2 g c =
    let s = c.show_items.ensures in
    let a = c.add_item.ensures in
    let t = c.tell_items.ensures in
    let i = c.pass.invariant in
    let line : PassItem g.row.T.Denot = record { pass = c.pass.inside.number; item = c.args.item } in
    let items : c.push_reserved.new.self.items ≡ c.pass.inside.items.items ++ line ∷ [] = c.push_reserved.ensures.items in
    let known : c.tell_items.new.pass.me.0.items ≡ c.self.inside.seat.me.0.items ++ line ∷ [] = t.pass.2 ∙ ap (λ m. m.0.items) a.1 ∙ ap (λ l. l ++ line ∷ []) s.slip.1 in (
      t.seats.1 ∙ s.seats.1 ∙ i.0,
      t.seats.2 ∙ ap (λ m. m.1) s.pass ∙ i.1,
      t.pass.0 ∙ ap (λ m. m.0.role) s.pass ∙ i.2,
      t.pass.1 ∙ ap (λ m. m.0.commits) s.pass ∙ i.3,
      i.4,
      subst (λ l. IsWithin l c.tell_items.new.pass.me.0.items) (sym items) (subst (IsWithin (c.pass.inside.items.items ++ line ∷ [])) (sym known) (within_push _ _ line (within_begun _ _ _ i.5 s.begins))),
      subst (AllOf c.pass.inside.number) (sym items) (each_push (λ (x : PassItem g.row.T.Denot). x.pass ≡ c.pass.inside.number) c.pass.inside.items.items line i.6 refl),
    )

pub invariant_of-self-2 : goal.invariant_of-self-2
invariant_of-self-2 g c =
    let s = c.show_items.ensures in
    let a = c.add_item.ensures in
    let t = c.tell_items.ensures in
    let i = c.self.invariant in
    let line : PassItem g.row.T.Denot = record { pass = c.pass.inside.number; item = c.args.item } in
    let known : c.tell_items.new.slip.me.0.items ≡ c.self.inside.seat.me.0.items ++ line ∷ [] = ap (λ m. m.0.items) t.slip ∙ ap (λ m. m.0.items) a.1 ∙ ap (λ l. l ++ line ∷ []) s.slip.1 in
    let commits : c.tell_items.new.slip.me.0.commits ≡ c.self.inside.seat.me.0.commits = ap (λ m. m.0.commits) t.slip ∙ ap (λ m. m.0.commits) a.1 ∙ s.slip.3 in
    let before : Each (λ (x : PassItem g.row.T.Denot). g.T.Placed.ends x.item ≤ g.T.Placed.starts c.args.item) c.self.inside.seat.me.0.items =
    subst (Each (λ (x : PassItem g.row.T.Denot). g.T.Placed.ends x.item ≤ g.T.Placed.starts c.args.item)) (sym (ap (λ (n : Noting g.row.C.Denot g.row.T.Denot). n.items) c.self.view_is)) c.requires.later in (
      t.seats.0 ∙ a.0 ∙ s.seats.0 ∙ i.0,
      ap (λ m. m.1) t.slip ∙ ap (λ m. m.1) a.1 ∙ s.seats.2 ∙ i.1,
      ap (λ m. m.0.role) t.slip ∙ ap (λ m. m.0.role) a.1 ∙ s.slip.0,
      subst (IsRising g.T.Placed.starts g.T.Placed.ends) (sym known) (rising_push g.T.Placed.starts g.T.Placed.ends c.self.inside.seat.me.0.items line i.3 before),
      i.4 ∙ ap (has_stop g.C.Line.stops) (sym commits),
      i.5 ∙ ap length (sym commits),
    )
