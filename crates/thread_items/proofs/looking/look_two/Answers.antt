use Rattle.std.proofs.Common.{◌≡◌, ◌++◌, ◌∷◌, [], Some, length, ap, ◌∙◌}
use Rattle.thread_desk_stables.specs.kernel_core_facts.kernel_invariant.declared.stopping.Stopped.{Stopped}
use Rattle.thread_board.specs.Sides.{Noting}
use Rattle.thread_board.specs.declared.views.PassItem.{PassItem}
use Rattle.thread_desk_stables.specs.thread_desk.Desks.{Knowing}
use Rattle.thread_items.specs.declared.items.LookItem.{LookItem}
use Rattle.thread_items.proofs.Truths.{err_look, if_some, item_same, items_after, items_later}
use Rattle.thread_items.proofs.looking.look_two.Goals as goal

pub note_item-requires-clause-later : goal.note_item-requires-clause-later
note_item-requires-clause-later g c =
    items_later g.B.Board.terms.told g.B.Board.begin c.desk.inside.desk.noted.entries c.desk.inside.desk.stop c.desk.inside.slip.items c.is_full.new.self.items c.item_at-item.result.place c.desk.invariant
    (ap (λ (s : Noting g.row.C.Denot LookItem). s.items) c.is_full.ensures.slip) (ap (λ (i : LookItem). i.place) c.item_at-item.ensures ∙ c.place-place.ensures)

pub invariant_of-desk-in-Some : goal.invariant_of-desk-in-Some
invariant_of-desk-in-Some g c =
    let old = c.desk.inside.desk in
    let new = c.look_two.new.desk in
    let came = c.in-Some.came in
    let x : PassItem LookItem = record { pass = c.args.pass.now.number; item = c.item_at-item.result } in
    items_after g.B.Board.terms.told g.B.Board.begin c.args.locus.now.number (c.args.locus.now.number ∷ c.args.other.now.number ∷ []) old.noted.entries new.noted.entries old.stop new.stop came c.desk.inside.slip.items c.note_item.new.slip.items x
    c.in-Some.ensures.notes c.in-Some.ensures.item
    (if_some (λ (why : Stopped). (Some came ≡ Some (err_look why)) × (new ≡ old) × (c.look_two.new.till ≡ c.args.till.now) × (c.look_two.new.locus ≡ c.args.locus.now) × (c.look_two.new.other ≡ c.args.other.now)) (λ (why : Stopped). (Some came ≡ Some (err_look why)) × (new.stop ≡ old.stop))
    (λ why h. (h.0, ap (λ (k : Knowing g.row.D.Denot). k.stop) h.1)) old.stop c.in-Some.ensures.was_stopped)
    c.in-Some.ensures.stop (c.note_item.ensures.items ∙ ap (λ (s : Noting g.row.C.Denot LookItem). s.items ++ x ∷ []) c.is_full.ensures.slip)
    (item_same c.item_at-item.result c.args.locus.now.number c.entity_of.result (length old.noted.entries) c.place-place.result came new.noted.entries c.item_at-item.ensures (c.entity_of.ensures ∙ c.look_two.ensures.numbers.0) c.place-place.ensures)
    c.desk.invariant
