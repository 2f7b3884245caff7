use Rattle.std.proofs.Common.{◌≡◌, [], sym, ap, ◌∙◌, eqb-true, length}
use Rattle.store_snapshots.specs.store_facts.Opening.{is_some_rec}
use Rattle.store_snapshots.specs.store_facts.State.{books}
use Rattle.store_snapshots.specs.store_books.Books.{recs_in}
use Rattle.test_store.proofs.Owned.{none_of}
use Rattle.test_store.proofs.own.OwnStore.open.Goals as goal

pub invariant_of-result : goal.invariant_of-result
invariant_of-result g c =
    let none : recs_in (books c.in-Ok.store) ≡ [] = sym c.recs.ensures ∙ none_of c.recs.result.now (eqb-true (length c.recs.result.now) 0 (sym c.is_empty.ensures ∙ c.if-not-is_empty.false)) in
    record { read = c.in-Ok.ensures.fresh.found ∙ ap is_some_rec none; epoch = λ _. c.in-Ok.ensures.epoch; true_books = λ t. c.in-Ok.ensures.empty t none }
