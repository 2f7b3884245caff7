-- Which versions are known behind one entity more.
use Rattle.std.proofs.Common.{◌≡◌, ℕ, ◌+◌, ◌<◌, ◌≤◌, List, length, inl, inr, ◌∙◌, subst, arith, get_or-set_other, get_or-set_same}
use Rattle.std.specs.Prelude.{slice_index, slice_set}
use Rattle.std.proofs.lemmas.Bool.{cases_lt}

module _ (old : List ℕ) (f : ℕ → ℕ) (n version : ℕ) (long : length old ≡ 64) (low : n < 64) where
  pub known_below : version ≡ f n → ((x : ℕ) → x < n → slice_index old x ≡ f x) → (x : ℕ) → x < n + 1 → slice_index (slice_set old n version) x ≡ f x
  known_below is knows x lt = elim (cases_lt x n) as (λ _. slice_index (slice_set old n version) x ≡ f x) [
    | inl less ↦ get_or-set_other old n x version 0 (λ same. (let e = same in absurd (omega (arith, e, less)))) ∙ knows x less
    | inr past ↦ (let here : n ≡ x = omega (arith, lt, past) in subst (λ (y : ℕ). slice_index (slice_set old n version) y ≡ f y) here (get_or-set_same old n version 0 (omega (arith, long, low)) ∙ is))
  ]

  pub unknown_past : (g : ℕ → ℕ) → ((x : ℕ) → n ≤ x → slice_index old x ≡ g x) → (x : ℕ) → n + 1 ≤ x → slice_index (slice_set old n version) x ≡ g x
  unknown_past g same x le = get_or-set_other old n x version 0 (λ e. absurd (omega (arith, e, le))) ∙ same x (omega (arith, le))
