-- The names that are made for numbers: each is new.
use Rattle.std.proofs.Common.{◌≡◌, ℕ, zero, suc, ◌+◌, ◌<◌, ◌≤◌, ◌^◌, ◌⊎◌, inl, inr, ⊎_elim, Bool, true, false, ◌||◌, ◌==◌, List, [], ◌∷◌, ◌++◌, length, Some, slice_get, refl, sym, ap, subst, ◌∙◌, arith, eqb-true, eq-eqb}
use Rattle.std.proofs.lemmas.Fmt.{decimal_injective}
use Rattle.std.proofs.lemmas.Option.{slice_get_within}
use Rattle.model_kernel.specs.State.{Text}
use Rattle.model_kernel.specs.Outcomes.{made_name}
use Rattle.model_kernel.specs.Scripts.{text_eq}
use Rattle.model_kernel.specs.Soundness.{are_names_from, is_given_name, is_name_of}
use Rattle.model_kernel.proofs.Basics.{and_left, and_right, both, or_right}

pub same_text : (t : Text) → text_eq t t ≡ true
same_text [] = refl
same_text (x ∷ xs) = let e : (x == x) ≡ true = eq-eqb x x refl in rw e (same_text xs)

pub text_same : (s t : Text) → text_eq s t ≡ true → s ≡ t
text_same [] [] h = refl
text_same [] (y ∷ ys) h = cc
text_same (x ∷ xs) [] h = cc
text_same (x ∷ xs) (y ∷ ys) h = let e : x ≡ y = eqb-true x y (and_left (x == y) (text_eq xs ys) h) in let f = text_same xs ys (and_right (x == y) (text_eq xs ys) h) in λ i. e i ∷ f i

-- two numbers have two names
made_apart : (m n : ℕ) → m < 2 ^ 64 → n < 2 ^ 64 → made_name m ≡ made_name n → m ≡ n
made_apart m n low low' e = decimal_injective m n low low' (cc)

-- a made name begins with `#`, and is not given
not_given : (n : ℕ) → is_given_name (made_name n) ≡ false
not_given n = refl

-- a name of another number is not the made one
other_name : (m n : ℕ) (t : Text) → m < 2 ^ 64 → n < 2 ^ 64 → (m ≡ n → ⊥) → is_name_of m t ≡ true → t ≡ made_name n → ⊥
other_name m n t low low' apart is e = by_name (is_given_name t) (text_eq t (made_name m)) refl refl is
  where
    by_name : (p q : Bool) → is_given_name t ≡ p → text_eq t (made_name m) ≡ q → (p || q) ≡ true → ⊥
    by_name true q ep eq h = (let bad : true ≡ false = sym ep ∙ ap is_given_name e ∙ not_given n in cc)
    by_name false true ep eq h = apart (made_apart m n low low' (sym (text_same t (made_name m) eq) ∙ e))
    by_name false false ep eq h = cc

-- the name at a place
name_at : (n : ℕ) (ts : List Text) (i : ℕ) (t : Text) → are_names_from n ts ≡ true → slice_get ts i ≡ Some t → is_name_of (i + n) t ≡ true
name_at n [] i t h is = cc
name_at n (s ∷ ts) zero t h is = let same : s ≡ t = cc in let e : n ≡ 0 + n = omega arith in subst (λ m. is_name_of m t ≡ true) e (subst (λ u. is_name_of n u ≡ true) same (and_left (is_name_of n s) (are_names_from (n + 1) ts) h))
name_at n (s ∷ ts) (suc i) t h is = let e : i + (n + 1) ≡ suc i + n = omega arith in subst (λ m. is_name_of m t ≡ true) e (name_at (n + 1) ts i t (and_right (is_name_of n s) (are_names_from (n + 1) ts) h) is)

-- names from n on don't have the made name of another number
pub not_among : (n m : ℕ) (ts : List Text) (i : ℕ) → are_names_from n ts ≡ true → length ts + n ≤ 2 ^ 63 → m < 2 ^ 64 → (m < n) ⊎ (length ts + n ≤ m) → slice_get ts i ≡ Some (made_name m) → ⊥
not_among n m ts i h low low' far is =
    let within : i < length ts = slice_get_within ts i (made_name m) is in
    other_name (i + n) m (made_name m) (omega arith) low' (λ e. elim far as (λ _. ⊥) [ inl lt ↦ omega arith | inr ge ↦ omega arith ]) (name_at n ts i (made_name m) h is) refl

-- the list of names with the next made name
pub names_with_made : (n : ℕ) (ts : List Text) → are_names_from n ts ≡ true → are_names_from n (ts ++ made_name (length ts + n) ∷ []) ≡ true
names_with_made n [] h = both (is_name_of n (made_name (0 + n))) true (or_right (is_given_name (made_name (0 + n))) _ (let e : 0 + n ≡ n = omega arith in subst (λ m. text_eq (made_name m) (made_name n) ≡ true) (sym e) (same_text (made_name n)))) refl
names_with_made n (t ∷ ts) h =
    let e : length ts + (n + 1) ≡ suc (length ts) + n = omega arith in
    both (is_name_of n t) _ (and_left (is_name_of n t) (are_names_from (n + 1) ts) h)
    (subst (λ m. are_names_from (n + 1) (ts ++ made_name m ∷ []) ≡ true) e (names_with_made (n + 1) ts (and_right (is_name_of n t) (are_names_from (n + 1) ts) h)))

-- a name of the longer list is an old one or the new one
pub pushed_name : (ts : List Text) (name t : Text) (i : ℕ) → slice_get (ts ++ name ∷ []) i ≡ Some t → (slice_get ts i ≡ Some t) ⊎ ((i ≡ length ts) × (name ≡ t))
pushed_name [] name t zero is = inr (refl, (let e : name ≡ t = cc in e))
pushed_name [] name t (suc i) is = inl is
pushed_name (s ∷ ts) name t zero is = inl is
pushed_name (s ∷ ts) name t (suc i) is = ⊎_elim {C = (slice_get ts i ≡ Some t) ⊎ ((suc i ≡ suc (length ts)) × (name ≡ t))} (λ h. inl h) (λ h. inr (ap suc h.0, h.1)) (pushed_name ts name t i is)

pub pushed_different : (ts : List Text) (name : Text) → ((i : ℕ) → slice_get ts i ≡ Some name → ⊥) → ((i j : ℕ) (t : Text) → slice_get ts i ≡ Some t → slice_get ts j ≡ Some t → i ≡ j)
    → (i j : ℕ) (t : Text) → slice_get (ts ++ name ∷ []) i ≡ Some t → slice_get (ts ++ name ∷ []) j ≡ Some t → i ≡ j
pushed_different ts name none differ i j t at at' = by_cases (pushed_name ts name t i at) (pushed_name ts name t j at')
  where
    by_cases : (slice_get ts i ≡ Some t) ⊎ ((i ≡ length ts) × (name ≡ t)) → (slice_get ts j ≡ Some t) ⊎ ((j ≡ length ts) × (name ≡ t)) → i ≡ j
    by_cases (inl p) (inl q) = differ i j t p q
    by_cases (inl p) (inr q) = absurd (none i (p ∙ ap Some (sym q.1)))
    by_cases (inr p) (inl q) = absurd (none j (q ∙ ap Some (sym p.1)))
    by_cases (inr p) (inr q) = p.0 ∙ sym q.0

pub pushed_apart : (ts us : List Text) (name : Text) → ((i : ℕ) → slice_get us i ≡ Some name → ⊥) → ((i j : ℕ) (t : Text) → slice_get ts i ≡ Some t → slice_get us j ≡ Some t → ⊥)
    → (i j : ℕ) (t : Text) → slice_get (ts ++ name ∷ []) i ≡ Some t → slice_get us j ≡ Some t → ⊥
pushed_apart ts us name none differ i j t at at' = ⊎_elim {C = ⊥} (λ p. differ i j t p at') (λ p. none j (at' ∙ ap Some (sym p.1))) (pushed_name ts name t i at)
