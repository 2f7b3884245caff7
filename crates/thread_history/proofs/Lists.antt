-- Beginnings of lists, the entries that write an entity, and what is told of each number.
use Rattle.std.proofs.Common.{◌≡◌, ◌≢◌, ℕ, zero, suc, ◌+◌, ◌%◌, ◌^◌, ◌<◌, ◌≤◌, Bool, true, false, cond, eqb, eq-eqb, ne_eqb, subst, nat_le, List, [], ◌∷◌, ◌++◌, length, set, get_or, refl, ap, sym, ◌∙◌, arith, append_assoc, length-append}
use Rattle.std.proofs.lemmas.List.{append-nil}
use Rattle.std.proofs.lemmas.List.Elements.{filter-append}
use Rattle.std.proofs.lemmas.Bool.Decides.{nat_tests}
use Rattle.std.proofs.Math.Nat.{mod-eq_of_lt}
use mathlib.Core.List.{IsPrefix}
use mathlib.Core.Logic.{dite}
use native.Mathlib.Decide.{ℕ_discrete}
use Rattle.thread_history.specs.Rules.{concerning, longer, told_of, tell}

module _ {A : Type 0} where
  pub prefix_self : (xs : List A) → IsPrefix xs xs
  prefix_self xs = ([], append-nil xs)

  pub prefix_nil : (xs : List A) → IsPrefix [] xs
  prefix_nil xs = (xs, refl)

  pub prefix_trans : (xs ys zs : List A) → IsPrefix xs ys → IsPrefix ys zs → IsPrefix xs zs
  prefix_trans xs ys zs p q = (p.0 ++ q.0, sym (append_assoc xs p.0 q.0) ∙ (ap (λ w. w ++ q.0) p.1 ∙ q.1))

  pub prefix_push : (xs ys : List A) (y : A) → IsPrefix xs ys → IsPrefix xs (ys ++ y ∷ [])
  prefix_push xs ys y p = prefix_trans xs ys (ys ++ y ∷ []) p (y ∷ [], refl)

  pub prefix_length : (xs ys : List A) → IsPrefix xs ys → length xs ≤ length ys
  prefix_length xs ys p = omega (arith, sym (ap length p.1) ∙ length-append xs p.0)

  -- of two beginnings of one list the shorter begins the longer
  pub prefix_shorter : (xs ys zs : List A) → IsPrefix xs zs → IsPrefix ys zs → length xs ≤ length ys → IsPrefix xs ys
  prefix_shorter [] ys zs p q le = (ys, refl)
  prefix_shorter (x ∷ xs) [] zs p q le = absurd (omega arith)
  prefix_shorter (x ∷ xs) (y ∷ ys) [] p q le = absurd (cc (p.1))
  prefix_shorter (x ∷ xs) (y ∷ ys) (z ∷ zs) p q le =
      let heads : x ≡ y = cc (p.1, q.1) in
      let rest = prefix_shorter xs ys zs (p.0, cc (p.1)) (q.0, cc (q.1)) (omega arith) in
      (rest.0, cc (heads, rest.1))

  -- a beginning as long as the whole is the whole
  pub prefix_whole : (xs ys : List A) → IsPrefix xs ys → length ys ≤ length xs → xs ≡ ys
  prefix_whole [] [] p le = refl
  prefix_whole [] (y ∷ ys) p le = absurd (omega arith)
  prefix_whole (x ∷ xs) [] p le = absurd (cc (p.1))
  prefix_whole (x ∷ xs) (y ∷ ys) p le =
      let rest = prefix_whole xs ys (p.0, cc (p.1)) (omega arith) in cc (p.1, rest)

  -- two lists that begin one another are one
  pub prefix_both : (xs ys : List A) → IsPrefix xs ys → IsPrefix ys xs → xs ≡ ys
  prefix_both xs ys p q = prefix_whole xs ys p (prefix_length ys xs q)

-- writing a word as it is
pub set_same : (ws : List ℕ) (i : ℕ) → set ws i (get_or ws i 0) ≡ ws
set_same [] i = refl
set_same (w ∷ ws) zero = refl
set_same (w ∷ ws) (suc i) = ap (λ r. w ∷ r) (set_same ws i)

module _ {A : Type 0} (concerns : A → ℕ → Bool) where
  pub concerning-append : (x : ℕ) (es fs : List A) → concerning concerns x (es ++ fs) ≡ concerning concerns x es ++ concerning concerns x fs
  concerning-append x es fs = filter-append (λ e. concerns e x) es fs

  pub concerning_prefix : (x : ℕ) (es fs : List A) → IsPrefix es fs → IsPrefix (concerning concerns x es) (concerning concerns x fs)
  concerning_prefix x es fs p = (concerning concerns x p.0, sym (concerning-append x es p.0) ∙ ap (concerning concerns x) p.1)

  pub concerning-push : (x : ℕ) (es : List A) (e : A) → concerning concerns x (es ++ e ∷ []) ≡ concerning concerns x es ++ cond (concerns e x) (e ∷ []) []
  concerning-push x es e = concerning-append x es (e ∷ [])

module _ {A : Type 0} where
  -- THE LONGER OF TWO
  pub longer_of : (P : List A → Type 0) (xs ys : List A) → P xs → P ys → P (longer xs ys)
  longer_of P xs ys p q = by_test (nat_le (length ys) (length xs))
    where
      by_test : (b : Bool) → P (cond b xs ys)
      by_test true = p
      by_test false = q

  pub longer_first : (xs ys : List A) → length ys ≤ length xs → longer xs ys ≡ xs
  longer_first xs ys le = by_test (nat_le (length ys) (length xs)) refl
    where
      by_test : (b : Bool) → nat_le (length ys) (length xs) ≡ b → cond b xs ys ≡ xs
      by_test true is = refl
      by_test false is = absurd (grind (arith, nat_tests))

  -- two beginnings of one list begin the longer of them
  pub longer_over : (xs ys zs : List A) → IsPrefix xs zs → IsPrefix ys zs → IsPrefix xs (longer xs ys)
  longer_over xs ys zs p q = by_test (nat_le (length ys) (length xs)) refl
    where
      by_test : (b : Bool) → nat_le (length ys) (length xs) ≡ b → IsPrefix xs (cond b xs ys)
      by_test true is = prefix_self xs
      by_test false is = prefix_shorter xs ys zs p q (grind (arith, nat_tests))

  -- a list and one that it begins
  pub longer_begun : (xs ys : List A) → IsPrefix xs ys → longer xs ys ≡ ys
  longer_begun xs ys p = by_test (nat_le (length ys) (length xs)) refl
    where
      by_test : (b : Bool) → nat_le (length ys) (length xs) ≡ b → cond b xs ys ≡ ys
      by_test true is = prefix_whole xs ys p (grind (arith, nat_tests))
      by_test false is = refl

module _ {A : Type 0} where
  -- WHAT IS TOLD
  pub tell_here : (ls : List (List A)) (x : ℕ) (m : List A) → told_of (tell ls x m) x ≡ m
  tell_here [] zero m = refl
  tell_here [] (suc x) m = tell_here [] x m
  tell_here (l ∷ ls) zero m = refl
  tell_here (l ∷ ls) (suc x) m = tell_here ls x m

  pub tell_else : (ls : List (List A)) (x y : ℕ) (m : List A) → y ≢ x → told_of (tell ls x m) y ≡ told_of ls y
  tell_else [] zero zero m n = absurd (n refl)
  tell_else [] zero (suc y) m n = refl
  tell_else [] (suc x) zero m n = refl
  tell_else [] (suc x) (suc y) m n = tell_else [] x y m (λ e. n (ap suc e))
  tell_else (l ∷ ls) zero zero m n = absurd (n refl)
  tell_else (l ∷ ls) zero (suc y) m n = refl
  tell_else (l ∷ ls) (suc x) zero m n = refl
  tell_else (l ∷ ls) (suc x) (suc y) m n = tell_else ls x y m (λ e. n (ap suc e))

-- NUMBERS
-- a function with another value at one number
abbrev pub at_number : {X : Type 0} → (ℕ → X) → ℕ → X → ℕ → X
at_number f n a y = cond (eqb y n) a (f y)

pub at_number_of : {X : Type 0} (P : X → Type 0) (f : ℕ → X) (n : ℕ) (a : X) (y : ℕ) → (y ≡ n → P a) → (y ≢ n → P (f y)) → P (at_number f n a y)
at_number_of P f n a y here elsewhere = dite (ℕ_discrete y n) (λ e. subst (λ b. P (cond b a (f y))) (sym (eq-eqb y n e)) (here e)) (λ ne. subst (λ b. P (cond b a (f y))) (sym (ne_eqb y n ne)) (elsewhere ne))

-- a word below its end goes up by one
pub raised : (n : ℕ) → n + 1 < 18446744073709551616 → (n + 1) % 2 ^ 64 ≡ n + 1
raised n lt = mod-eq_of_lt (omega arith)
