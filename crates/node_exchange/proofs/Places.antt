-- The list of places, and what stands in it.
use Rattle.std.proofs.Common.{◌≡◌, ◌⊎◌, inl, inr, ℕ, zero, suc, ◌+◌, ◌<◌, ◌≤◌, arith, List, [], ◌∷◌, ◌++◌, length, Option, Some, None, refl, sym, ap, ◌∙◌, add-one, length-append}
use Rattle.std.specs.Prelude.{slice_get}
use Rattle.std.proofs.lemmas.Bool.{cases_lt}
use Rattle.base_types.specs.Edges.{upto}

near : (xs ys : List ℕ) (n x : ℕ) → slice_get xs n ≡ Some x → slice_get (xs ++ ys) n ≡ Some x
near [] ys n x is = cc is
near (z ∷ xs) ys zero x is = is
near (z ∷ xs) ys (suc n) x is = near xs ys n x is

pub upto_long : (n : ℕ) → length (upto n) ≡ n
upto_long zero = refl
upto_long (suc n) = (let sum = length-append (upto n) (n ∷ []) in let long = upto_long n in omega (arith, sum, long))

pub upto_next : (n : ℕ) → upto (n + 1) ≡ upto n ++ n ∷ []
upto_next n = ap upto (add-one n)

get_end : (xs : List ℕ) (y : ℕ) → slice_get (xs ++ y ∷ []) (length xs) ≡ Some y
get_end [] y = refl
get_end (z ∷ xs) y = get_end xs y

end_or_before : (xs : List ℕ) (y i x : ℕ) → slice_get (xs ++ y ∷ []) i ≡ Some x → (slice_get xs i ≡ Some x) ⊎ ((i ≡ length xs) × (x ≡ y))
end_or_before [] y zero x at = inr (refl, (cc at))
end_or_before [] y (suc i) x at = cc at
end_or_before (z ∷ xs) y zero x at = inl at
end_or_before (z ∷ xs) y (suc i) x at = elim (end_or_before xs y i x at) as (λ _. (slice_get xs i ≡ Some x) ⊎ ((suc i ≡ suc (length xs)) × (x ≡ y))) [ inl k ↦ inl k | inr p ↦ inr (ap suc p.0, p.1) ]

-- a place is its own place
pub place_is : (n i x : ℕ) → slice_get (upto n) i ≡ Some x → (x ≡ i) × (i < n)
place_is zero i x at = cc at
place_is (suc n) i x at = elim (end_or_before (upto n) n i x at) as (λ _. (x ≡ i) × (i < suc n)) [
  | inl k ↦ (let p = place_is n i x k in (p.0, omega (arith, p.1)))
  | inr p ↦ (let long = upto_long n in (omega (arith, p.0, p.1, long), omega (arith, p.0, long)))
]

pub get_place : (n i : ℕ) → i < n → slice_get (upto n) i ≡ Some i
get_place zero i lt = absurd (omega (arith, lt))
get_place (suc n) i lt = elim (cases_lt i n) as (λ _. slice_get (upto n ++ n ∷ []) i ≡ Some i) [
  | inl less ↦ near (upto n) (n ∷ []) i i (get_place n i less)
  | inr more ↦ (let same : i ≡ n = omega (arith, lt, more) in let at : i ≡ length (upto n) = same ∙ sym (upto_long n) in
      ap (slice_get (upto n ++ n ∷ [])) at ∙ (get_end (upto n) n ∙ ap Some (sym same)))
]

pub no_place : (n i : ℕ) → n ≤ i → slice_get (upto n) i ≡ None
no_place n i le = by_option (slice_get (upto n) i) refl
  where
    by_option : (o : Option ℕ) → slice_get (upto n) i ≡ o → slice_get (upto n) i ≡ None
    by_option None is = is
    by_option (Some x) is = (let p = place_is n i x is in absurd (let lt = p.1 in omega (arith, lt, le)))
