-- Counts of numbers that pass a test, and totals.
use Rattle.std.proofs.Common.{◌≡◌, ℕ, zero, suc, ◌+◌, ◌*◌, ◌≤◌, ◌<◌, Bool, true, false, ◌&&◌, ◌||◌, ◌==◌, List, [], ◌∷◌, ◌++◌, length, find, if◌then◌else◌, Some, refl, sym, ap, subst, ◌∙◌, arith, inl, inr}
use Rattle.std.specs.List.{list_any}
use Rattle.std.proofs.Math.Nat.{suc-mul}
use Rattle.std.proofs.lemmas.Bool.{cases_lt, false≢true}
use Rattle.std.proofs.lemmas.Bool.Decides.{nat_tests}
use Rattle.script_types.specs.base_types.Edges.{upto}
use Rattle.script_types.specs.base_types.declared.histories.Touch.{Touch}

abbrev pub one_if : Bool → ℕ
one_if true = 1
one_if false = 0

abbrev pub zero_if : Bool → ℕ
zero_if true = 0
zero_if false = 1

-- how many numbers below n pass
abbrev pub how_many : (ℕ → Bool) → ℕ → ℕ
how_many f zero = 0
how_many f (suc n) = how_many f n + one_if (f n)

cond_le : (p q : Bool) → (p ≡ true → q ≡ true) → one_if p ≤ one_if q
cond_le true true h = omega arith
cond_le true false h = absurd (false≢true (h refl))
cond_le false true h = omega arith
cond_le false false h = omega arith

pub many_mono : (f g : ℕ → Bool) → ((x : ℕ) → f x ≡ true → g x ≡ true) → (n : ℕ) → how_many f n ≤ how_many g n
many_mono f g h zero = omega arith
many_mono f g h (suc n) = (let rest = many_mono f g h n in let one = cond_le (f n) (g n) (h n) in omega (arith, rest, one))

pub many_less : (f g : ℕ → Bool) → ((x : ℕ) → f x ≡ true → g x ≡ true) → (x n : ℕ) → x < n → f x ≡ false → g x ≡ true → how_many f n + 1 ≤ how_many g n
many_less f g h x zero lt no' yes' = absurd (omega arith)
many_less f g h x (suc n) lt no' yes' = elim (cases_lt x n) as (λ _. how_many f (suc n) + 1 ≤ how_many g (suc n)) [
  | inl low ↦ (let rest = many_less f g h x n low no' yes' in let one = cond_le (f n) (g n) (h n) in omega (arith, rest, one))
  | inr high ↦ (
      let same : x ≡ n = omega arith in
      let rest = many_mono f g h n in
      let p : one_if (f n) ≡ 0 = ap (λ b. one_if b) (ap f (sym same) ∙ no') in
      let q : one_if (g n) ≡ 1 = ap (λ b. one_if b) (ap g (sym same) ∙ yes') in
      omega (arith, rest, p, q))
]

or_cond : (p q : Bool) → one_if (p || q) ≤ one_if p + one_if q
or_cond true true = omega arith
or_cond true false = omega arith
or_cond false true = omega arith
or_cond false false = omega arith

pub many_or : (f g : ℕ → Bool) (n : ℕ) → how_many (λ x. f x || g x) n ≤ how_many f n + how_many g n
many_or f g zero = omega arith
many_or f g (suc n) = (let rest = many_or f g n in let one = or_cond (f n) (g n) in omega (arith, rest, one))

pub cond_one : (p : Bool) → one_if p ≤ 1
cond_one true = omega arith
cond_one false = omega arith

pub many_top : (f : ℕ → Bool) (n : ℕ) → how_many f n ≤ n
many_top f zero = omega arith
many_top f (suc n) = (let rest = many_top f n in let one = cond_one (f n) in omega (arith, rest, one))

pub many_none : (f : ℕ → Bool) → ((x : ℕ) → f x ≡ false) → (n : ℕ) → how_many f n ≡ 0
many_none f h zero = refl
many_none f h (suc n) = (let rest = many_none f h n in let one : one_if (f n) ≡ 0 = ap (λ b. one_if b) (h n) in omega (arith, rest, one))

off_low : (a n : ℕ) → n < a → (a == n) ≡ false
off_low a n h = grind (arith, nat_tests)

off_high : (a n : ℕ) → a < n → (a == n) ≡ false
off_high a n h = grind (arith, nat_tests)

one_number : (a : ℕ) (b : Bool) (n : ℕ) → (n ≤ a → how_many (λ x. a == x && b) n ≡ 0) × (how_many (λ x. a == x && b) n ≤ 1)
one_number a b zero = (λ _. refl, omega arith)
one_number a b (suc n) =
    let rest = one_number a b n in (
      λ h. (let z = rest.0 (omega arith) in let one : one_if (a == n && b) ≡ 0 = ap (λ t. one_if (t && b)) (off_low a n (omega arith)) in omega (arith, z, one)),
      elim (cases_lt a n) as (λ _. how_many (λ x. a == x && b) (suc n) ≤ 1) [
        | inl low ↦ (let one : one_if (a == n && b) ≡ 0 = ap (λ t. one_if (t && b)) (off_high a n low) in let r = rest.1 in omega (arith, r, one))
        | inr high ↦ (let z = rest.0 high in let one = cond_one (a == n && b) in omega (arith, z, one))
      ],
    )

pub many_written : (ts : List Touch) (n : ℕ) → how_many (λ x. list_any (λ t. t.entity == x && t.wrote) ts) n ≤ length ts
many_written [] n = (let z = many_none (λ x. list_any (λ (t : Touch). t.entity == x && t.wrote) []) (λ x. refl) n in omega (arith, z))
many_written (t ∷ ts) n =
    let both = many_or (λ x. t.entity == x && t.wrote) (λ x. list_any (λ t. t.entity == x && t.wrote) ts) n in
    let one = (one_number t.entity t.wrote n).1 in
    let rest = many_written ts n in
    omega (arith, both, one, rest)

-- TOTALS

abbrev pub total : (ℕ → ℕ) → ℕ → ℕ
total f zero = 0
total f (suc n) = total f n + f n

pub total_mono : (f g : ℕ → ℕ) → ((i : ℕ) → f i ≤ g i) → (n : ℕ) → total f n ≤ total g n
total_mono f g h zero = omega arith
total_mono f g h (suc n) = (let rest = total_mono f g h n in let one = h n in omega (arith, rest, one))

pub total_less : (f g : ℕ → ℕ) → ((i : ℕ) → f i ≤ g i) → (i n : ℕ) → i < n → f i + 1 ≤ g i → total f n + 1 ≤ total g n
total_less f g h i zero lt less = absurd (omega arith)
total_less f g h i (suc n) lt less = elim (cases_lt i n) as (λ _. total f (suc n) + 1 ≤ total g (suc n)) [
  | inl low ↦ (let rest = total_less f g h i n low less in let one = h n in omega (arith, rest, one))
  | inr high ↦ (
      let same : i ≡ n = omega arith in
      let rest = total_mono f g h n in
      let one : f n + 1 ≤ g n = subst (λ k. f k + 1 ≤ g k) same less in
      omega (arith, rest, one))
]

pub total_const : (c n : ℕ) → total (λ _. c) n ≡ n * c
total_const c zero = (let e : 0 * c ≡ 0 = omega arith in sym e)
total_const c (suc n) = (let rest = total_const c n in let e = suc-mul n c in ap (λ k. k + c) rest ∙ sym e)

-- WHAT IS FOUND

abbrev pub AllLess : ℕ → List ℕ → Type 0
AllLess m [] = Unit {0}
AllLess m (x ∷ xs) = (x < m) × AllLess m xs

less_append : (m : ℕ) (xs ys : List ℕ) → AllLess m xs → AllLess m ys → AllLess m (xs ++ ys)
less_append m [] ys a b = b
less_append m (x ∷ xs) ys a b = (a.0, less_append m xs ys a.1 b)

pub upto_less : (m n : ℕ) → n ≤ m → AllLess m (upto n)
upto_less m zero h = tt
upto_less m (suc n) h = less_append m (upto n) (n ∷ []) (upto_less m n (omega arith)) (omega arith, tt)

found_less : (f : ℕ → Bool) (m : ℕ) (xs : List ℕ) (x : ℕ) → AllLess m xs → find f xs ≡ Some x → x < m
found_less f m [] x all e = cc
found_less f m (y ∷ ys) x all e = elim (f y) as (λ b. (if b then Some y else find f ys) ≡ Some x → x < m) [
  | true ↦ λ e. (let same : y ≡ x = cc in subst (λ z. z < m) same all.0)
  | false ↦ λ e. found_less f m ys x all.1 e
] e

pub found_below : (f : ℕ → Bool) (n x : ℕ) → find f (upto n) ≡ Some x → x < n
found_below f n x e = found_less f n (upto n) x (upto_less n n (omega arith)) e
