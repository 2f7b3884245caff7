use Rattle.std.proofs.Common.{◌≡◌, [], sym, ap, ◌∙◌, eqb-true, length, arith}
use Rattle.store_snapshots.specs.store_facts.Opening.{is_some_rec}
use Rattle.store_snapshots.specs.store_facts.State.{books}
use Rattle.kernel_records.specs.store_books.Books.{recs_in}
use Rattle.test_kernel.proofs.Fitting.{has_room, none_of}
use Rattle.test_kernel.proofs.snapped.snap_new.Goals as goal

pub snap_both-requires-clause-may : goal.snap_both-requires-clause-may
snap_both-requires-clause-may g c = λ s words is.
    let none : recs_in (books c.in-Ok.store) ≡ [] = sym c.recs.ensures ∙ none_of c.recs.result.now (eqb-true (length c.recs.result.now) 0 (sym c.is_empty.ensures ∙ c.if-not-is_empty.false)) in
    let cell = c.stepped_locus-cell.ensures in
    record {
      spellable = cell.spellable;
      own = cell.own;
      some = cell.some;
      newer = λ k d short. absurd (let len : length (recs_in (books c.in-Ok.store)) ≡ 0 = ap length none in omega (arith, short, len));
      table = cell.sound _;
      read = c.in-Ok.ensures.fresh.found ∙ ap is_some_rec none;
      room = has_room (books c.in-Ok.store) none;
      epoch = (let low = c.in-Ok.ensures.epoch in omega (arith, low));
    }

pub snap_both-requires-clause-true_books : goal.snap_both-requires-clause-true_books
snap_both-requires-clause-true_books g c = λ t.
    let none : recs_in (books c.in-Ok.store) ≡ [] = sym c.recs.ensures ∙ none_of c.recs.result.now (eqb-true (length c.recs.result.now) 0 (sym c.is_empty.ensures ∙ c.if-not-is_empty.false)) in
    c.in-Ok.ensures.empty t none
