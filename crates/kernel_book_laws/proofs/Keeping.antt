-- The cells match the books again, after commits and as versions rise.
use Rattle.std.proofs.Common.{◌≡◌, ◌≢◌, ◌⊎◌, inl, inr, ℕ, ◌<◌, ◌≤◌, Bool, true, false, ◌==◌, if◌then◌else◌, List, [], ◌∷◌, slice_get, slice_index, Option, Some, None, refl, sym, ap, subst, ◌∙◌, arith, eqb-true, eq-eqb}
use Rattle.std.proofs.lemmas.Bool.Decides.{nat_tests}
use Rattle.edge_disk.specs.declared.disk.Disk.{Ghosts}
use Rattle.kernel_views.specs.cell_clocks.declared.Clock.{Clock}
use Rattle.kernel_views.specs.model_kernel.Words.{put}
use Rattle.kernel_views.specs.cell_states.declared.cells.Cell.{Cell}
use Rattle.kernel_views.specs.cell_states.declared.cells.Wish.{Wish}
use Rattle.kernel_views.specs.cell_blobs.Blobs.{bytes_of, is_recorded, spelt_in}
use Rattle.kernel_views.specs.table_laws.Lending.{Lends}
use Rattle.kernel_views.specs.table_laws.Tables.{IsOrderly}
use Rattle.kernel_views.specs.kernel_record_facts.Cells.{table_of}
use Rattle.kernel_views.specs.cell_wish_laws.Founded.{IsFoundedCell}
use Rattle.kernel_views.specs.store_facts.Committed.{HasNewRecord}
use Rattle.kernel_views.specs.store_facts.Shelves.{records_of}
use Rattle.kernel_views.specs.store_facts.State.{State, books}
use Rattle.kernel_views.specs.store_books.Books.{Books, Logged, kept_in, recs_in, logged_recs}
use Rattle.kernel_views.specs.kernel_records.Committing.{HasCommitted, HasNotCommitted, LeavesCell}
use Rattle.kernel_views.specs.kernel_records.Keeping.{HasNewest}
use Rattle.kernel_views.proofs.kernel_records_lemmas.Fewer.{keeps_one_more}
use Rattle.kernel_views.proofs.kernel_records_lemmas.Newest.{keeps_newest, newest_goes_on}
use Rattle.kernel_views.specs.Views.{newest_at}
use Rattle.kernel_views.proofs.Behind.{order, recorded_founded}
use Rattle.kernel_views.proofs.Flushing.{spot}
use Rattle.kernel_book_laws.specs.Matching.{AreRecorded, HasRoomFor, MatchesBooks, Rises, SameLog, newest_of, version_at, version_of}
use Rattle.kernel_book_laws.proofs.Committable.{low_number, changed_above, stamp_below}

-- OVER THE SAME LOG

same_recs : (old new : Books) → new.logged ≡ old.logged → recs_in new ≡ recs_in old
same_recs old new e = ap logged_recs e

same_kept : (old new : Books) → new.logged ≡ old.logged → kept_in new ≡ kept_in old
same_kept old new e = ap (λ (ls : List Logged). kept_in (record old { logged = ls })) e

pub rises : (most : ℕ → ℕ) (old new : Books) (cs cs' : List Cell) → MatchesBooks most old cs → SameLog old new → IsOrderly new.held cs' → Rises cs cs' → MatchesBooks most new cs'
rises most old new cs cs' m log ord r = record {
  orderly = ord;
  read = log.same_found ∙ m.read;
  stamps = m.stamps;
  newest = subst (λ n. HasNewest n m.stamps (recs_in new)) same (subst (HasNewest (newest_of cs) m.stamps) (sym (same_recs old new log.same_logged)) m.newest);
  below = λ x y some.
      let was : 0 < newest_of cs x = (let e = r.newest x in omega (arith, some, e)) in
      let le = m.below x y was in
      let up = r.versions y in
      omega (arith, le, up);
  few = λ y. subst (λ (ls : List Logged). records_of y ls ≤ most y) (sym (same_kept old new log.same_logged)) (m.few y);
}
  where
    same : newest_of cs ≡ newest_of cs'
    same = λ i x. sym (r.newest x) i

-- AFTER A COMMIT

module _ {D : Type 0} (disks : Ghosts D)
    (most : ℕ → ℕ) (cs cs' : List Cell) (c d : Cell) (old new : State D) (m : MatchesBooks most (books old) cs) (lends : Lends cs cs' (c ∷ []) (d ∷ [])) where
  abbrev x : ℕ
  x = c.clock.entity

  at : slice_get cs x ≡ Some c
  at = lends.stood.0

  place : d.clock ≡ c.clock → (y : ℕ) → ((y ≡ x) × (slice_get cs' y ≡ Some d)) ⊎ ((y ≢ x) × (slice_get cs' y ≡ slice_get cs y))
  place clock = spot cs cs' c d (ap (λ (k : Clock). k.entity) clock) lends

  pub same_version : d.clock ≡ c.clock → (y : ℕ) → version_of cs' y ≡ version_of cs y
  same_version clock y = elim (place clock y) as (λ _. version_of cs' y ≡ version_of cs y) [
    | inl p ↦ ap version_at p.1 ∙ (ap (λ (k : Clock). k.version) clock ∙ sym (ap version_at (ap (slice_get cs) p.0 ∙ at)))
    | inr p ↦ ap version_at p.1
  ]

  same_newest : d.clock ≡ c.clock → d.wish ≡ c.wish → (y : ℕ) → newest_of cs' y ≡ newest_of cs y
  same_newest clock wish y = elim (place clock y) as (λ _. newest_of cs' y ≡ newest_of cs y) [
    | inl p ↦ ap newest_at p.1 ∙ (ap (λ (w : Wish). w.newest) wish ∙ sym (ap newest_at (ap (slice_get cs) p.0 ∙ at)))
    | inr p ↦ ap newest_at p.1
  ]

  same_log : LeavesCell disks c d old new → (books new).logged ≡ (books old).logged → SameLog (books old) (books new)
  same_log l e = record { same_logged = e; same_found = l.holds.same_found ∙ l.pages.only.same_found }

  pub unmade : HasNotCommitted disks c d old new → MatchesBooks most (books new) cs'
  unmade h =
      let wish : d.wish ≡ c.wish = ap (λ (k : Cell). k.wish) h.only_part in
      let founded : IsFoundedCell d = subst IsFoundedCell (sym h.only_part) (m.orderly.founded x c at) in
      rises most (books old) (books new) cs cs' m (same_log h.leaves h.same_logged)
      (order disks cs cs' c d old new m.orderly lends founded h.leaves)
      record { versions = λ y. (let e = same_version h.leaves.same_clock y in omega (arith, e)); newest = same_newest h.leaves.same_clock wish }

  -- a record was made
  module _ (more : ℕ → ℕ) (changed : is_recorded c ≡ false) (room : HasRoomFor more x (books old)) (h : HasCommitted disks c d old new) where
    clock_is : d.clock ≡ c.clock
    clock_is = h.leaves.same_clock

    abbrev fl : Books
    fl = books h.leaves.flushed

    abbrev Made : ℕ → ℕ → List ℕ → Type 0
    Made entity version stamp = HasNewRecord entity version (Rattle.std.specs.Prelude.length (bytes_of (spelt_in d.part))) stamp (table_of d.part) fl (books new)

    made : Made x c.clock.version c.clock.stamp.0
    made = subst (λ (k : Clock). Made k.entity k.version k.stamp.0) clock_is h.has.made

    logged : fl.logged ≡ (books old).logged
    logged = h.leaves.pages.only.same_logged

    newest_is : put (newest_of cs) x c.clock.version ≡ newest_of cs'
    newest_is = λ i y. each y i
      where
        each : (y : ℕ) → put (newest_of cs) x c.clock.version y ≡ newest_of cs' y
        each y = elim (place clock_is y) as (λ _. put (newest_of cs) x c.clock.version y ≡ newest_of cs' y) [
          | inl p ↦ ap (λ (b : Bool). if b then c.clock.version else newest_of cs y) (eq-eqb y x p.0) ∙ sym (ap newest_at p.1 ∙ ap (λ (w : Wish). w.newest) h.recorded.wish)
          | inr p ↦ ap (λ (b : Bool). if b then c.clock.version else newest_of cs y) (apart y p.0) ∙ sym (ap newest_at p.1)
        ]
          where
            apart : (y : ℕ) → y ≢ x → (y == x) ≡ false
            apart y differs = grind (arith, nat_tests)

    newest_here : newest_of cs x ≡ c.wish.newest
    newest_here = ap newest_at at

    pub again : MatchesBooks more (books new) cs'
    again = record {
      orderly = order disks cs cs' c d old new m.orderly lends (recorded_founded c d h.recorded) h.leaves;
      read = h.leaves.holds.same_found ∙ (h.leaves.pages.only.same_found ∙ m.read);
      stamps = put m.stamps x c.clock.stamp.0;
      newest = subst (λ n. HasNewest n (put m.stamps x c.clock.stamp.0) (recs_in (books new))) newest_is
          (newest_goes_on (newest_of cs) m.stamps x c.clock.version _ c.clock.stamp.0 (table_of d.part) fl (books new)
          (subst (HasNewest (newest_of cs) m.stamps) (sym (same_recs (books old) fl logged)) m.newest) made
          (let e = newest_here in let lt = changed_above (books old).held cs x c m.orderly at changed in omega (arith, e, lt))
          (low_number (books old).held cs x c m.orderly at));
      below = λ y z some. subst (λ (n : ℕ). slice_index (put m.stamps x c.clock.stamp.0 y) z ≤ n) (sym (same_version clock_is z)) (rests y z some);
      few = λ y.
          let one = (keeps_one_more x c.clock.version _ c.clock.stamp.0 (table_of d.part) fl (books new) made).each y in
          let was : records_of y (kept_in fl) ≡ records_of y (kept_in (books old)) = ap (records_of y) (same_kept (books old) fl logged) in
          let enough = room y in
          omega (arith, one, was, enough);
    }
      where
        stamp_at : (y : ℕ) → (b : Bool) → (y == x) ≡ b → put m.stamps x c.clock.stamp.0 y ≡ (if b then c.clock.stamp.0 else m.stamps y)
        stamp_at y b e = ap (λ (t : Bool). if t then c.clock.stamp.0 else m.stamps y) e

        rests : (y z : ℕ) → 0 < newest_of cs' y → slice_index (put m.stamps x c.clock.stamp.0 y) z ≤ version_of cs z
        rests y z some = elim (place clock_is y) as (λ _. slice_index (put m.stamps x c.clock.stamp.0 y) z ≤ version_of cs z) [
          | inl p ↦ subst (λ (s : List ℕ). slice_index s z ≤ version_of cs z) (sym (stamp_at y true (eq-eqb y x p.0))) (stamp_below (books old).held cs x c m.orderly at z)
          | inr p ↦ subst (λ (s : List ℕ). slice_index s z ≤ version_of cs z) (sym (stamp_at y false (apart y p.0)))
              (m.below y z (let e : newest_of cs' y ≡ newest_of cs y = ap newest_at p.1 in omega (arith, some, e)))
        ]
          where
            apart : (y : ℕ) → y ≢ x → (y == x) ≡ false
            apart y differs = grind (arith, nat_tests)

-- WHERE EACH CELL IS RECORDED

pub settled : (most : ℕ → ℕ) (b : Books) (cs : List Cell) → MatchesBooks most b cs → AreRecorded cs → MatchesBooks (λ _. 1) b cs
settled most b cs m all = record {
  orderly = m.orderly;
  read = m.read;
  stamps = m.stamps;
  newest = m.newest;
  below = m.below;
  few = (keeps_newest (newest_of cs) m.stamps b m.newest (λ x y some. (let le = m.below x y some in let e = same y in omega (arith, le, e)))).each;
}
  where
    by_cell : (y : ℕ) (o : Option Cell) → slice_get cs y ≡ o → version_at o ≡ newest_at o
    by_cell y None is = refl
    by_cell y (Some c) is = eqb-true c.clock.version c.wish.newest (all y c is)

    same : (y : ℕ) → version_of cs y ≡ newest_of cs y
    same y = by_cell y (slice_get cs y) refl

pub fewer : (most more : ℕ → ℕ) (b : Books) (cs : List Cell) → MatchesBooks most b cs → ((y : ℕ) → most y ≤ more y) → MatchesBooks more b cs
fewer most more b cs m le = record {
  orderly = m.orderly;
  read = m.read;
  stamps = m.stamps;
  newest = m.newest;
  below = m.below;
  few = λ y. (let few = m.few y in let up = le y in omega (arith, few, up));
}
