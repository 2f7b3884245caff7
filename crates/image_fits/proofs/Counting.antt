-- Sums over the entities of a list of which one counts.
use Rattle.std.proofs.Common.{◌≡◌, ℕ, zero, suc, ◌+◌, ◌≤◌, List, [], ◌∷◌, Option, None, refl, ap, arith}
use Rattle.std.specs.Prelude.{sum_by}
use Rattle.std.proofs.lemmas.List.Sums.{sum_by-cons}
use Rattle.image_fits.specs.Chosen.{entity_at}
use Rattle.image_fits.specs.declared.chosen.ChosenEntity.{ChosenEntity}

-- SUMS over entities

module _ (f : Option ChosenEntity → ℕ) (zero_none : f None ≡ 0) where
  pub one_of : (es : List (Option ChosenEntity)) (x : ℕ) → f (entity_at es x) ≤ sum_by f es
  one_of [] x = let e = zero_none in omega (arith, e)
  one_of (e ∷ es) zero = let all = sum_by-cons f e es in omega (arith, all)
  one_of (e ∷ es) (suc x) = let all = sum_by-cons f e es in let more = one_of es x in omega (arith, all, more)

  pub two_of : (es : List (Option ChosenEntity)) (x y : ℕ) → (x ≡ y → ⊥) → f (entity_at es x) + f (entity_at es y) ≤ sum_by f es
  two_of [] x y apart = let e = zero_none in omega (arith, e)
  two_of (e ∷ es) zero zero apart = absurd (apart refl)
  two_of (e ∷ es) zero (suc y) apart = let all = sum_by-cons f e es in let more = one_of es y in omega (arith, all, more)
  two_of (e ∷ es) (suc x) zero apart = let all = sum_by-cons f e es in let more = one_of es x in omega (arith, all, more)
  two_of (e ∷ es) (suc x) (suc y) apart = let all = sum_by-cons f e es in let more = two_of es x y (λ s. apart (ap suc s)) in omega (arith, all, more)

  none_of : (es : List (Option ChosenEntity)) → ((y : ℕ) → f (entity_at es y) ≡ 0) → sum_by f es ≡ 0
  none_of [] none = refl
  none_of (e ∷ es) none = let all = sum_by-cons f e es in let here : f e ≡ 0 = none 0 in let more = none_of es (λ y. none (suc y)) in omega (arith, all, here, more)

  pub only_of : (es : List (Option ChosenEntity)) (x : ℕ) → ((y : ℕ) → (y ≡ x → ⊥) → f (entity_at es y) ≡ 0) → sum_by f es ≤ f (entity_at es x)
  only_of [] x none = omega arith
  only_of (e ∷ es) zero none = let all = sum_by-cons f e es in let more = none_of es (λ y. none (suc y) (λ s. absurd (omega (arith, s)))) in omega (arith, all, more)
  only_of (e ∷ es) (suc x) none =
      let all = sum_by-cons f e es in
      let here : f e ≡ 0 = none 0 (λ s. omega (arith, s)) in
      let more = only_of es x (λ y apart. none (suc y) (λ s. apart (omega (arith, s)))) in
      omega (arith, all, here, more)
