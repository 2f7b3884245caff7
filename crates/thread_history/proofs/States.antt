-- What no later entry writes is as it was.
use Rattle.std.proofs.Common.{◌≡◌, Bool, true, false, ◌||◌, cond, List, [], ◌∷◌, ◌++◌, length, filter, refl, ap, ◌∙◌, arith, length-append}
use Rattle.std.specs.List.{list_any}
use Rattle.std.proofs.lemmas.List.Elements.{filter-append}

module _ {A : Type 0} (p : A → Bool) where
  none_passes : (xs : List A) → length (filter p xs) ≡ 0 → list_any p xs ≡ false
  none_passes [] e = refl
  none_passes (x ∷ xs) e = by_test (p x) (none_passes xs) e
    where
      by_test : (b : Bool) → (length (filter p xs) ≡ 0 → list_any p xs ≡ false) → length (cond b (x ∷ filter p xs) (filter p xs)) ≡ 0 → (b || list_any p xs) ≡ false
      by_test true rest e = absurd (omega (arith, e))
      by_test false rest e = rest e

  -- where the same pass as before, none of those that came passes
  pub none_added : (xs ys : List A) → filter p xs ≡ filter p (xs ++ ys) → list_any p ys ≡ false
  none_added xs ys same = none_passes ys (omega (arith, ap length (same ∙ filter-append p xs ys), length-append (filter p xs) (filter p ys)))
