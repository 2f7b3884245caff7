-- Counts of numbers that pass a test.
use Rattle.std.proofs.Common.{◌≡◌, ℕ, zero, suc, ◌+◌, ◌≤◌, ◌<◌, Bool, true, false, not, ◌||◌, ◌==◌, cond, List, [], ◌∷◌, count_by, length, refl, ap, arith, eqb-true, inl, inr}
use Rattle.std.specs.List.{list_any, range_with_len, sum_by}
use Rattle.std.proofs.lemmas.Bool.{cases_eq, false≢true}
use Rattle.std.proofs.lemmas.Bool.Decides.{nat_tests}
use Rattle.std.proofs.lemmas.List.Sums.{sum_by-cons}

one_le : (p q : Bool) → (p ≡ true → q ≡ true) → cond {A = ℕ} p 1 0 ≤ cond {A = ℕ} q 1 0
one_le true true h = omega arith
one_le true false h = absurd (false≢true (h refl))
one_le false true h = omega arith
one_le false false h = omega arith

or_one : (p q : Bool) → cond {A = ℕ} (p || q) 1 0 ≤ cond {A = ℕ} p 1 0 + cond {A = ℕ} q 1 0
or_one true q = omega arith
or_one false q = omega arith

not_one : (p : Bool) → cond {A = ℕ} p 1 0 + cond {A = ℕ} (not p) 1 0 ≡ 1
not_one true = refl
not_one false = refl

module _ {A : Type 0} where
  pub count_more : (f : A → Bool) (x : A) (xs : List A) → count_by f (x ∷ xs) ≡ cond (f x) 1 0 + count_by f xs
  count_more f x xs = sum_by-cons (λ y. cond (f y) 1 0) x xs

  -- a weaker test passes more
  pub count_le : (f g : A → Bool) → ((x : A) → f x ≡ true → g x ≡ true) → (xs : List A) → count_by f xs ≤ count_by g xs
  count_le f g h [] = omega arith
  count_le f g h (x ∷ xs) = (let one = one_le (f x) (g x) (h x) in let a = count_more f x xs in let b = count_more g x xs in let rest = count_le f g h xs in omega (arith, one, a, b, rest))

  -- one of two tests passes no more than both do
  pub count_or : (f g : A → Bool) (xs : List A) → count_by (λ x. f x || g x) xs ≤ count_by f xs + count_by g xs
  count_or f g [] = omega arith
  count_or f g (x ∷ xs) =
      let one = or_one (f x) (g x) in
      let a = count_more (λ y. f y || g y) x xs in
      let b = count_more f x xs in
      let c = count_more g x xs in
      let rest = count_or f g xs in
      omega (arith, one, a, b, c, rest)

  -- each item passes or doesn't
  pub count_not : (f : A → Bool) (xs : List A) → count_by f xs + count_by (λ x. not (f x)) xs ≡ length xs
  count_not f [] = refl
  count_not f (x ∷ xs) = (let one = not_one (f x) in let a = count_more f x xs in let b = count_more (λ y. not (f y)) x xs in let rest = count_not f xs in omega (arith, one, a, b, rest))

  pub count_none : (xs : List A) → count_by (λ _. false) xs ≡ 0
  count_none [] = refl
  count_none (x ∷ xs) = (let a = count_more (λ _. false) x xs in let rest = count_none xs in omega (arith, a, rest))

  pub sum_le : (f g : A → ℕ) → ((x : A) → f x ≤ g x) → (xs : List A) → sum_by f xs ≤ sum_by g xs
  sum_le f g h [] = omega arith
  sum_le f g h (x ∷ xs) = (let one = h x in let a = sum_by-cons f x xs in let b = sum_by-cons g x xs in let rest = sum_le f g h xs in omega (arith, one, a, b, rest))

-- what passes some test of a list passes no more often than each of them together
pub count_any : {A : Type 0} (f : A → ℕ → Bool) (ns : List ℕ) (xs : List A) → count_by (λ n. list_any (λ x. f x n) xs) ns ≤ sum_by (λ x. count_by (f x) ns) xs
count_any {A = A} f ns [] = (let none : count_by (λ (n : ℕ). list_any (λ (x : A). f x n) []) ns ≡ 0 = count_none ns in omega (arith, none))
count_any {A = A} f ns (x ∷ xs) =
    let split : count_by (λ n. list_any (λ y. f y n) (x ∷ xs)) ns ≤ count_by (f x) ns + count_by (λ n. list_any (λ y. f y n) xs) ns = count_or (f x) (λ n. list_any (λ y. f y n) xs) ns in
    let sum = sum_by-cons (λ y. count_by (f y) ns) x xs in
    let rest = count_any f ns xs in
    omega (arith, split, sum, rest)

-- RANGES

never_below : (m a k : ℕ) → m < a → count_by (λ n. m == n) (range_with_len a k) ≡ 0
never_below m a zero lt = refl
never_below m a (suc k) lt =
    let test : (m == a) ≡ false = grind (arith, nat_tests) in
    let one : cond {A = ℕ} (m == a) 1 0 ≡ 0 = ap (λ t. cond {A = ℕ} t 1 0) test in
    let a' = count_more (λ (n : ℕ). m == n) a (range_with_len (a + 1) k) in
    let rest = never_below m (a + 1) k (omega (arith, lt)) in
    omega (arith, one, a', rest)

-- a number stands once in a range
pub count_one : (m a k : ℕ) → count_by (λ n. m == n) (range_with_len a k) ≤ 1
count_one m a zero = omega arith
count_one m a (suc k) = elim (cases_eq m a) as (λ _. count_by (λ n. m == n) (range_with_len a (suc k)) ≤ 1) [
  | inl same ↦ (
      let more = count_more (λ (n : ℕ). m == n) a (range_with_len (a + 1) k) in
      let one : cond {A = ℕ} (m == a) 1 0 ≤ 1 = at_most (m == a) in
      let rest = never_below m (a + 1) k (omega (arith, same)) in
      omega (arith, more, one, rest))
  | inr other ↦ (
      let test : (m == a) ≡ false = differs m a other in
      let one : cond {A = ℕ} (m == a) 1 0 ≡ 0 = ap (λ t. cond {A = ℕ} t 1 0) test in
      let more = count_more (λ (n : ℕ). m == n) a (range_with_len (a + 1) k) in
      let rest = count_one m (a + 1) k in
      omega (arith, one, more, rest))
]
  where
    at_most : (p : Bool) → cond {A = ℕ} p 1 0 ≤ 1
    at_most true = omega arith
    at_most false = omega arith

    differs : (m a : ℕ) → (m ≡ a → ⊥) → (m == a) ≡ false
    differs m a other = by_test (m == a) refl
      where
        by_test : (t : Bool) → (m == a) ≡ t → t ≡ false
        by_test true e = absurd (other (eqb-true m a e))
        by_test false e = refl
