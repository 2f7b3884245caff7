-- As many different numbers below n as n are all of them.
use Rattle.std.proofs.Common.{◌≡◌, ◌≢◌, ℕ, zero, suc, ◌<◌, ◌≤◌, Bool, true, false, true≢false, cond, ◌||◌, eqb, eq-eqb, ne_eqb, List, [], ◌∷◌, length, refl, ap, sym, ◌∙◌, subst, arith}
use mathlib.Core.Logic.{dite}
use native.Mathlib.Decide.{ℕ_discrete}
use Rattle.thread_history.specs.Rules.{AllDiffer, is_among}
use Rattle.thread_history.specs.Numbers.{AllBelow}

-- the others than n
without : ℕ → List ℕ → List ℕ
without n [] = []
without n (x ∷ xs) = cond (eqb x n) (without n xs) (x ∷ without n xs)

without_here : (n x : ℕ) (xs : List ℕ) → x ≡ n → without n (x ∷ xs) ≡ without n xs
unfolding without
without_here n x xs e = ap (λ b. cond b (without n xs) (x ∷ without n xs)) (eq-eqb x n e)

without_else : (n x : ℕ) (xs : List ℕ) → x ≢ n → without n (x ∷ xs) ≡ x ∷ without n xs
unfolding without
without_else n x xs e = ap (λ b. cond b (without n xs) (x ∷ without n xs)) (ne_eqb x n e)

without_nil : (n : ℕ) → without n [] ≡ []
unfolding without
without_nil n = refl

pub or_first : (a b : Bool) → (a || b) ≡ false → a ≡ false
or_first true b e = e
or_first false b e = refl

pub or_second : (a b : Bool) → (a || b) ≡ false → b ≡ false
or_second true b e = absurd (true≢false e)
or_second false b e = e

pub or_none : (a b : Bool) → a ≡ false → b ≡ false → (a || b) ≡ false
or_none true b p q = p
or_none false b p q = q

pub not_same : (x y : ℕ) → eqb x y ≡ false → x ≢ y
not_same x y e same = true≢false (sym (eq-eqb x y same) ∙ e)

among_without : (n y : ℕ) (xs : List ℕ) → is_among y xs ≡ false → is_among y (without n xs) ≡ false
among_without n y [] e = ap (is_among y) (without_nil n)
among_without n y (x ∷ xs) e =
    let rest = among_without n y xs (or_second (eqb x y) (is_among y xs) e) in
    dite (ℕ_discrete x n)
    (λ same. ap (is_among y) (without_here n x xs same) ∙ rest)
    (λ other. ap (is_among y) (without_else n x xs other) ∙ or_none (eqb x y) (is_among y (without n xs)) (or_first (eqb x y) (is_among y xs) e) rest)

differ_without : (n : ℕ) (xs : List ℕ) → AllDiffer xs → AllDiffer (without n xs)
differ_without n [] h = subst AllDiffer (sym (without_nil n)) tt
differ_without n (x ∷ xs) h =
    dite (ℕ_discrete x n)
    (λ same. subst AllDiffer (sym (without_here n x xs same)) (differ_without n xs h.1))
    (λ other. subst AllDiffer (sym (without_else n x xs other)) (among_without n x xs h.0, differ_without n xs h.1))

below_without : (n : ℕ) (xs : List ℕ) → AllBelow (suc n) xs → AllBelow n (without n xs)
below_without n [] h = subst (AllBelow n) (sym (without_nil n)) tt
below_without n (x ∷ xs) h =
    dite (ℕ_discrete x n)
    (λ same. subst (AllBelow n) (sym (without_here n x xs same)) (below_without n xs h.1))
    (λ other. subst (AllBelow n) (sym (without_else n x xs other)) (omega (arith, h.0, other), below_without n xs h.1))

length_absent : (n : ℕ) (xs : List ℕ) → is_among n xs ≡ false → length (without n xs) ≡ length xs
length_absent n [] e = ap length (without_nil n)
length_absent n (x ∷ xs) e =
    ap length (without_else n x xs (not_same x n (or_first (eqb x n) (is_among n xs) e))) ∙ ap suc (length_absent n xs (or_second (eqb x n) (is_among n xs) e))

length_without : (n : ℕ) (xs : List ℕ) → AllDiffer xs → length xs ≤ suc (length (without n xs))
length_without n [] h = omega arith
length_without n (x ∷ xs) h =
    dite (ℕ_discrete x n)
    (λ same. let e = ap length (without_here n x xs same) in let f = length_absent n xs (subst (λ k. is_among k xs ≡ false) same h.0) in omega arith)
    (λ other. let e = ap length (without_else n x xs other) in let f = length_without n xs h.1 in omega arith)

-- no more different numbers below n than n
few : (n : ℕ) (xs : List ℕ) → AllDiffer xs → AllBelow n xs → length xs ≤ n
few n [] h b = omega arith
few zero (x ∷ xs) h b = absurd (omega (arith, b.0))
few (suc n) (x ∷ xs) h b =
    let f = few n (without n (x ∷ xs)) (differ_without n (x ∷ xs) h) (below_without n (x ∷ xs) b) in
    let g = length_without n (x ∷ xs) h in omega arith

pub all_there : (n : ℕ) (xs : List ℕ) → AllDiffer xs → AllBelow n xs → n ≤ length xs → (x : ℕ) → x < n → is_among x xs ≡ true
all_there n xs differ below long x lt = by_test (is_among x xs) refl
  where
    by_test : (b : Bool) → is_among x xs ≡ b → b ≡ true
    by_test true is = refl
    by_test false is = let f = few n (x ∷ xs) (is, differ) (lt, below) in absurd (omega arith)
