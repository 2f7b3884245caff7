-- The first of several that is there, and tests that hold.
use Rattle.std.proofs.Common.{◌≡◌, ℕ, zero, suc, ◌+◌, ◌<◌, Bool, true, false, ◌==◌, if◌then◌else◌, inl, inr, List, [], ◌∷◌, ◌++◌, map, Option, Some, None, refl, sym, ap, subst, ◌∙◌, arith}
use Rattle.std.proofs.lemmas.Bool.{cases_lt, eq-eqb}
use Rattle.std.proofs.lemmas.List.{map-append}
use Rattle.std.proofs.lemmas.Bool.Decides.{nat_tests}
use Rattle.model_kernel.specs.base_types.Edges.{upto}
use Rattle.model_kernel.specs.Words.{first}
use Rattle.image_facts.specs.Checks.{first_not_zero, unless_at}

pub first-append : {A : Type 0} (xs ys : List (Option A)) → first xs ≡ None → first (xs ++ ys) ≡ first ys
first-append [] ys none = refl
first-append (None ∷ xs) ys none = first-append xs ys none
first-append (Some x ∷ xs) ys none = cc

pub first-hit : {A : Type 0} (xs ys : List (Option A)) (x : A) → first xs ≡ Some x → first (xs ++ ys) ≡ Some x
first-hit [] ys x hit = cc
first-hit (None ∷ xs) ys x hit = first-hit xs ys x hit
first-hit (Some y ∷ xs) ys x hit = hit

pub first_parts : {A : Type 0} (xs ys : List (Option A)) → first (xs ++ ys) ≡ None → (first xs ≡ None) × (first ys ≡ None)
first_parts [] ys none = (refl, none)
first_parts (None ∷ xs) ys none = first_parts xs ys none
first_parts (Some x ∷ xs) ys none = absurd (let e : Some x ≡ None = none in cc)

pub first_head : {A : Type 0} (o : Option A) (xs : List (Option A)) → first (o ∷ xs) ≡ None → (o ≡ None) × (first xs ≡ None)
first_head None xs none = (refl, none)
first_head (Some x) xs none = absurd (let e : Some x ≡ None = none in cc)

pub first_next : {A : Type 0} (o : Option A) (xs : List (Option A)) → o ≡ None → first (o ∷ xs) ≡ first xs
first_next o xs none = ap (λ q. first (q ∷ xs)) none

-- OVER THE NUMBERS below one

next_is : (n : ℕ) → n + 1 ≡ suc n
next_is n = omega arith

module _ {A : Type 0} (f : ℕ → Option A) where
  pub first_more : (n : ℕ) → first (map f (upto n)) ≡ None → f n ≡ None → first (map f (upto (n + 1))) ≡ None
  first_more n none last =
      ap (λ (k : ℕ). first (map f (upto k))) (next_is n)
      ∙ (ap first (map-append f (upto n) (n ∷ [])) ∙ (first-append (map f (upto n)) (f n ∷ []) none ∙ ap (λ (o : Option A). first (o ∷ [])) last))

  pub first_all : (n : ℕ) → ((i : ℕ) → i < n → f i ≡ None) → first (map f (upto n)) ≡ None
  first_all zero each = refl
  first_all (suc n) each =
      ap first (map-append f (upto n) (n ∷ []))
      ∙ (first-append (map f (upto n)) (f n ∷ []) (first_all n (λ i lt. each i (omega (arith, lt)))) ∙ ap (λ (o : Option A). first (o ∷ [])) (each n (omega arith)))

  pub first_at : (n y : ℕ) (x : A) → y < n → first (map f (upto y)) ≡ None → f y ≡ Some x → first (map f (upto n)) ≡ Some x
  first_at zero y x lt none hit = absurd (omega (arith, lt))
  first_at (suc n) y x lt none hit =
      ap first (map-append f (upto n) (n ∷ [])) ∙ elim (cases_lt y n) as (λ _. first (map f (upto n) ++ f n ∷ []) ≡ Some x) [
        | inl low ↦ first-hit (map f (upto n)) (f n ∷ []) x (first_at n y x low none hit)
        | inr high ↦
            (let is : y ≡ n = omega (arith, lt, high) in
            first-append (map f (upto n)) (f n ∷ []) (subst (λ (k : ℕ). first (map f (upto k)) ≡ None) is none)
            ∙ ap (λ (o : Option A). first (o ∷ [])) (subst (λ (k : ℕ). f k ≡ Some x) is hit))
      ]

  pub first_each : (n : ℕ) → first (map f (upto n)) ≡ None → (i : ℕ) → i < n → f i ≡ None
  first_each zero none i lt = absurd (omega (arith, lt))
  first_each (suc n) none i lt =
      let parts = first_parts (map f (upto n)) (f n ∷ []) (ap first (sym (map-append f (upto n) (n ∷ []))) ∙ none) in
      elim (cases_lt i n) as (λ _. f i ≡ None) [
        | inl low ↦ first_each n parts.0 i low
        | inr high ↦ (let is : n ≡ i = omega (arith, lt, high) in subst (λ (k : ℕ). f k ≡ None) is (first_head (f n) [] parts.1).0)
      ]

-- TESTS

pub unless_true : (test : Bool) (place : ℕ) → test ≡ true → unless_at test place ≡ None
unless_true test place is = ap (λ (t : Bool). unless_at t place) is

pub unless_none : (test : Bool) (place : ℕ) → unless_at test place ≡ None → test ≡ true
unless_none true place none = refl
unless_none false place none = absurd (let e : Some place ≡ None = none in cc)

-- ZEROS

pub zeros_more : (place b : ℕ) (bytes : List ℕ) → b ≡ 0 → first_not_zero place (b ∷ bytes) ≡ first_not_zero (place + 1) bytes
zeros_more place b bytes is = ap (λ (t : Bool). if t then first_not_zero (place + 1) bytes else Some place) (eq-eqb b 0 is)

pub ne_test : (a b : ℕ) → (a ≡ b → ⊥) → (a == b) ≡ false
ne_test a b other = grind (arith, nat_tests)

pub zeros_hit : (place b : ℕ) (bytes : List ℕ) → (b ≡ 0 → ⊥) → first_not_zero place (b ∷ bytes) ≡ Some place
zeros_hit place b bytes other = ap (λ (t : Bool). if t then first_not_zero (place + 1) bytes else Some place) (ne_test b 0 other)
