use Rattle.std.proofs.Common.{◌≡◌, None, Some, slice_get, refl, sym, ap, subst, ◌∙◌}
use Rattle.std.proofs.lemmas.Option.{same_Some, slice_get_read}
use Rattle.thread_board.specs.Sides.{PassSeen}
use Rattle.thread_board.specs.declared.views.PassItem.{PassItem}
use Rattle.thread_items.specs.Items.{IsTrueItem}
use Rattle.thread_items.specs.Places.{entry_in}
use Rattle.thread_items.specs.declared.items.LookItem.{LookItem}
use Rattle.thread_items.proofs.Truths.{each_at, items_within}
use Rattle.thread_items.proofs.desks.ItemDesk.entry_of.Goals as goal

pub returns-clause-entry : goal.returns-clause-entry
returns-clause-entry g c x at =
    let told = g.B.Board.terms.told in
    let b = g.B.Board.begin in
    let desk = c.self.inside.desk in
    let items = c.args.pass.now.items in
    let same = c.items.ensures ∙ ap (λ (p : PassSeen LookItem). p.items) c.tell.ensures.pass in
    let found = c.in_ok-noted.ensures.lookup in
    let here : slice_get c.items.result.now c.args.at ≡ Some c.in_ok-noted.noted.now = slice_get_read c.items.result.now _ c.args.at c.in_ok-noted.noted.now refl found.3.0 found.1 in
    let is : c.in_ok-noted.noted.now ≡ x = same_Some c.in_ok-noted.noted.now x (sym here ∙ (ap (λ is. slice_get is c.args.at) same ∙ at)) in
    let true_x = each_at (λ (y : PassItem LookItem). IsTrueItem told b desk.noted.entries desk.stop y.item) items c.args.at x (items_within told b desk.noted.entries desk.stop items c.self.inside.slip.items c.tell.ensures.within c.self.invariant) at in
    let true_noted = subst (λ (y : PassItem LookItem). IsTrueItem told b desk.noted.entries desk.stop y.item) (sym is) true_x in
    c.entry_at.ensures true_noted ∙ ap (λ (y : PassItem LookItem). entry_in y.item.came) is

pub returns-clause-none : goal.returns-clause-none
returns-clause-none g c none =
    let same = c.items.ensures ∙ ap (λ (p : PassSeen LookItem). p.items) c.tell.ensures.pass in
    let found = c.in_ok-noted.ensures.lookup in
    let here : slice_get c.items.result.now c.args.at ≡ Some c.in_ok-noted.noted.now = slice_get_read c.items.result.now _ c.args.at c.in_ok-noted.noted.now refl found.3.0 found.1 in
    let clash : Some c.in_ok-noted.noted.now ≡ None = sym here ∙ (ap (λ is. slice_get is c.args.at) same ∙ none) in
    absurd (cc clash)
