-- The first number that passes a test.
use Rattle.std.proofs.Common.{◌≡◌, ℕ, zero, suc, ◌+◌, ◌<◌, Bool, true, false, if◌then◌else◌, List, [], ◌∷◌, ◌++◌, Some, None, ◌⊎◌, refl, sym, ap, subst, ◌∙◌, arith, add-one, inl, inr}
use Rattle.std.specs.Prelude.{find}
use Rattle.base_types.specs.Edges.{upto}

found_front : (f : ℕ → Bool) (xs ys : List ℕ) (a : ℕ) → find f xs ≡ Some a → find f (xs ++ ys) ≡ Some a
found_front f [] ys a e = absurd (apart e)
  where
    apart : None ≡ Some a → ⊥
    apart e = cc
found_front f (x ∷ xs) ys a e = elim (f x) as (λ b. (if b then Some x else find f xs) ≡ Some a → (if b then Some x else find f (xs ++ ys)) ≡ Some a) [
  | true ↦ λ e. e
  | false ↦ λ e. found_front f xs ys a e
] e

found_behind : (f : ℕ → Bool) (xs ys : List ℕ) → find f xs ≡ None → find f (xs ++ ys) ≡ find f ys
found_behind f [] ys e = refl
found_behind f (x ∷ xs) ys e = elim (f x) as (λ b. (if b then Some x else find f xs) ≡ None → (if b then Some x else find f (xs ++ ys)) ≡ find f ys) [
  | true ↦ λ e. absurd (apart e)
  | false ↦ λ e. found_behind f xs ys e
] e
  where
    apart : Some x ≡ None → ⊥
    apart e = cc

one : (f : ℕ → Bool) (n : ℕ) (b : Bool) → f n ≡ b → find f (n ∷ []) ≡ (if b then Some n else None)
one f n b is = ap (λ c. if c then Some n else None) is

-- none below n, and n does not pass: none below n + 1
pub none_more : (f : ℕ → Bool) (n : ℕ) → find f (upto n) ≡ None → f n ≡ false → find f (upto (n + 1)) ≡ None
none_more f n none is = ap (λ m. find f (upto m)) add_one ∙ found_behind f (upto n) (n ∷ []) none ∙ one f n false is
  where
    add_one : n + 1 ≡ suc n
    add_one = add-one n

one_more : (f : ℕ → Bool) (n m : ℕ) → find f (upto n) ≡ None → f n ≡ true → (n < m → find f (upto m) ≡ Some n) → (n < m) ⊎ (n ≡ m) → find f (upto m ++ m ∷ []) ≡ Some n
one_more f n m none is before (inl lt) = found_front f (upto m) (m ∷ []) n (before lt)
one_more f n m none is before (inr same) =
    found_behind f (upto m) (m ∷ []) (subst (λ k. find f (upto k) ≡ None) same none) ∙ one f m true (subst (λ k. f k ≡ true) same is) ∙ ap (λ k. Some k) (sym same)

-- none below n, and n passes: it is the first
pub first_here : (f : ℕ → Bool) (n m : ℕ) → find f (upto n) ≡ None → f n ≡ true → n < m → find f (upto m) ≡ Some n
first_here f n zero none is h = absurd (omega arith)
first_here f n (suc m) none is h = one_more f n m none is (λ lt. first_here f n m none is lt) (split n m h)
  where
    split : (n m : ℕ) → n < suc m → (n < m) ⊎ (n ≡ m)
    split n m h = grind arith
