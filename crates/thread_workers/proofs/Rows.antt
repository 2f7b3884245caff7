-- All cells of a board, lent from under their locks, are a row.
use Rattle.std.proofs.Common.{◌≡◌, ℕ, zero, suc, List, [], ◌∷◌, Some, map, slice_get, refl, sym, ap, ◌∙◌, arith}
use Rattle.std.proofs.lemmas.List.{length-map}
use Rattle.std.proofs.lemmas.Option.{same_Some}
use Rattle.thread_cells.specs.Locked.{Keeping}
use Rattle.thread_locks.specs.Rows.{AreFrom}
use Rattle.thread_locks.specs.thread_items.thread_desk.Sights.{Sighted}
use Rattle.thread_locks.specs.thread_items.thread_settling.Rows.{IsRow}

-- whichever lent cell is made of each, of the same number
module _ {A D : Type 0} (value : A → Sighted D) (lent : Sighted D → Keeping) (same : (s : Sighted D) → (lent s).number ≡ s.number) where
  -- the lent cell at a place is of the number of what lies there
  number_at : (gs : List A) (i : ℕ) (k : Keeping) → slice_get (map (λ g. lent (value g)) gs) i ≡ Some k
      → (s : Sighted D) × (slice_get (map value gs) i ≡ Some s) × (k.number ≡ s.number)
  number_at [] i k at = absurd (cc at)
  number_at (g ∷ gs) zero k at = (value g, refl, ap (λ (z : Keeping). z.number) (same_Some k (lent (value g)) (sym at)) ∙ same (value g))
  number_at (g ∷ gs) (suc i) k at = number_at gs i k at

  pub row_of : (gs : List A) → AreFrom 0 64 (map value gs) → IsRow (map (λ g. lent (value g)) gs)
  row_of gs from = record {
    len = length-map gs (λ g. lent (value g)) ∙ (sym (length-map gs value) ∙ from.len);
    each = λ i k at.
        let it = number_at gs i k at in
        let number = it.2 in
        let place = from.each i it.0 it.1 in
        omega (arith, number, place);
  }
