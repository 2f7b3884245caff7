-- Cells in a row.
use Rattle.std.proofs.Common.{◌≡◌, ◌⊎◌, ◌+◌, ℕ, zero, suc, List, [], ◌∷◌, ◌++◌, length, slice_get, Option, None, Some, inl, inr, refl, sym, ap, ◌∙◌, arith, ⊎_elim, length-append}
use Rattle.std.specs.Prelude.{IfSome}
use Rattle.std.proofs.lemmas.Option.{same_Some}
use Rattle.thread_items.specs.thread_desk.Sights.{Sighted}
use Rattle.thread_locks.specs.Rows.{AreFrom}

-- an item of two lists stands in the one or in the other
in_append : {A : Type 0} (xs ys : List A) (i : ℕ) (x : A) → slice_get (xs ++ ys) i ≡ Some x → (slice_get xs i ≡ Some x) ⊎ ((j : ℕ) × (i ≡ length xs + j) × (slice_get ys j ≡ Some x))
in_append [] ys i x at = inr (i, omega arith, at)
in_append (y ∷ xs) ys zero x at = inl at
in_append (y ∷ xs) ys (suc i) x at = ⊎_elim (λ (h : slice_get xs i ≡ Some x). inl h) (λ r. inr (r.0, (let is = r.1 in omega (arith, is)), r.2)) (in_append xs ys i x at)

module _ {D : Type 0} where
  pub none_from : (from : ℕ) → AreFrom {D = D} from 0 []
  none_from from = record { len = refl; each = λ i s at. absurd (cc at) }

  pub both_from : (from m n : ℕ) (xs ys : List (Sighted D)) → AreFrom from m xs → AreFrom (from + m) n ys → AreFrom from (m + n) (xs ++ ys)
  both_from from m n xs ys first second = record {
    len = (let a = first.len in let b = second.len in let more = length-append xs ys in omega (arith, a, b, more));
    each = λ i s at. ⊎_elim (λ (h : slice_get xs i ≡ Some s). first.each i s h)
        (λ r. let number = second.each r.0 s r.2 in let place = r.1 in let len = first.len in omega (arith, number, place, len)) (in_append xs ys i s at);
  }

  one_alone : (from : ℕ) (s : Sighted D) → s.number ≡ from → AreFrom from 1 (s ∷ [])
  one_alone from s number = record {
    len = refl;
    each = alone;
  }
    where
      alone : (i : ℕ) (t : Sighted D) → slice_get (s ∷ []) i ≡ Some t → t.number ≡ from + i
      alone zero t at = ap (λ (z : Sighted D). z.number) (same_Some t s (sym at)) ∙ (let is = number in omega (arith, is))
      alone (suc i) t at = absurd (cc at)

  pub one_from : (from m : ℕ) (xs : List (Sighted D)) (s : Sighted D) → s.number ≡ from + m → AreFrom from m xs → AreFrom from (m + 1) (xs ++ s ∷ [])
  one_from from m xs s number row = both_from from m 1 xs (s ∷ []) row (one_alone (from + m) s number)

pub if_some : {A : Type 0} (P Q : A → Type 0) (o : Option A) → ((x : A) → P x → Q x) → IfSome o P → IfSome o Q
if_some P Q None f p = p
if_some P Q (Some x) f p = f x p
