-- Things that are put in the order of their numbers, one after another.
use Rattle.std.proofs.Common.{◌≡◌, ◌≢◌, ℕ, ◌+◌, ◌<◌, true, ◌||◌, ◌==◌, List, [], ◌∷◌, map, slice_index_or, IsPermutation, refl, ap, sym, ◌∙◌, subst, arith}
use Rattle.std.specs.List.{list_any, SwappedAt}
use Rattle.std.proofs.lemmas.List.Sorted.{list_any-IsPermutation}
use mathlib.Core.Logic.{dite}
use native.Mathlib.Decide.{ℕ_discrete}
use Rattle.thread_history.specs.Rules.{is_among}

module _ {A : Type 0} (number : A → ℕ) where
  among_numbers : (x : ℕ) (xs : List A) → is_among x (map number xs) ≡ list_any (λ t. number t == x) xs
  among_numbers x [] = refl
  among_numbers x (t ∷ ts) = ap (λ b. (number t == x) || b) (among_numbers x ts)

  -- a number is found again in another order
  pub found_again : (x : ℕ) (xs ys : List A) → IsPermutation xs ys → is_among x (map number xs) ≡ true → list_any (λ t. number t == x) ys ≡ true
  found_again x xs ys same is = sym (list_any-IsPermutation (λ t. number t == x) xs ys same) ∙ sym (among_numbers x xs) ∙ is

  -- the thing of the next number comes to its place
  pub placed : (xs ys : List A) (i j : ℕ) → SwappedAt xs ys i j → ((d : A) → number (slice_index_or xs j d) ≡ i) → ((k : ℕ) (d : A) → k < i → number (slice_index_or xs k d) ≡ k)
      → (k : ℕ) (d : A) → k < i + 1 → number (slice_index_or ys k d) ≡ k
  placed xs ys i j swapped there before k d lt = dite (ℕ_discrete k i) here below
    where
      here : k ≡ i → number (slice_index_or ys k d) ≡ k
      here e = subst (λ m. number (slice_index_or ys m d) ≡ m) (sym e) (ap number (swapped.0 d) ∙ there d)

      kept : k ≢ i → k < i → k ≢ j → number (slice_index_or ys k d) ≡ k
      kept ne less other = ap number (swapped.2 k d ne other) ∙ before k d less

      below : k ≢ i → number (slice_index_or ys k d) ≡ k
      below ne =
          let less : k < i = omega (arith, lt, ne) in
          dite (ℕ_discrete k j) (λ same. absurd (ne (sym (before k d less) ∙ ap (λ m. number (slice_index_or xs m d)) same ∙ there d))) (kept ne less)
