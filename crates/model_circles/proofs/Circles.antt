-- A path over edges between containers can be cut to one of at most 40 steps, since it need not come to a
-- container twice.
use Rattle.std.proofs.Common.{◌≡◌, ℕ, zero, suc, ◌+◌, ◌<◌, ◌≤◌, Bool, true, false, cond, ◌&&◌, ◌||◌, ◌==◌, List, [], ◌∷◌, ◌++◌, length, refl, sym, ap, ◌∙◌, subst, ◌⊎◌, inl, inr, ⊎_elim, arith}
use Rattle.std.specs.Prelude.{nat_lt, ◌↔◌, IsTrue}
use Rattle.std.specs.List.{list_any}
use Rattle.std.proofs.lemmas.Bool.{and_parts, cases_eq, false≢true, or_cases}
use borrow.Author.Tests.{eq-eqb, ne_eqb, eqb-true, lt-ltb, ltb-true}
use Rattle.base_types.specs.Edges.{Edges, IsPath, ClosesCircle, upto, leads}
use Rattle.model_circles.specs.Containers.{IsAmongContainers}

-- numbers in a list

abbrev Absent : ℕ → List ℕ → Type 0
Absent c [] = Unit {0}
Absent c (x ∷ xs) = (x ≡ c → ⊥) × Absent c xs

abbrev Present : ℕ → List ℕ → Type 0
Present c [] = ⊥
Present c (x ∷ xs) = (x ≡ c) ⊎ Present c xs

abbrev NoRepeat : List ℕ → Type 0
NoRepeat [] = Unit {0}
NoRepeat (x ∷ xs) = Absent x xs × NoRepeat xs

-- each is from 1 to k
abbrev Within : ℕ → List ℕ → Type 0
Within k [] = Unit {0}
Within k (x ∷ xs) = (1 ≤ x) × (x ≤ k) × Within k xs

present_or_absent : (c : ℕ) (xs : List ℕ) → Present c xs ⊎ Absent c xs
present_or_absent c [] = inr tt
present_or_absent c (x ∷ xs) = ⊎_elim
    (λ (same : x ≡ c). inl (inl same))
    (λ (other : x ≡ c → ⊥). ⊎_elim (λ (p : Present c xs). inl (inr p)) (λ (a : Absent c xs). inr (other, a)) (present_or_absent c xs))
    (cases_eq x c)

-- the list without a number
abbrev without : ℕ → List ℕ → List ℕ
without k [] = []
without k (x ∷ xs) = cond (x == k) (without k xs) (x ∷ without k xs)

module _ (k x : ℕ) (xs : List ℕ) where
  without_same : x ≡ k → without k (x ∷ xs) ≡ without k xs
  without_same e = ap (λ b. cond b (without k xs) (x ∷ without k xs)) (eq-eqb x k e)

  without_other : (x ≡ k → ⊥) → without k (x ∷ xs) ≡ x ∷ without k xs
  without_other e = ap (λ b. cond b (without k xs) (x ∷ without k xs)) (ne_eqb x k e)

within_less : (k : ℕ) (xs : List ℕ) → Within (suc k) xs → Within k (without (suc k) xs)
within_less k [] h = tt
within_less k (x ∷ xs) h = ⊎_elim
    (λ (same : x ≡ suc k). subst (Within k) (sym (without_same (suc k) x xs same)) (within_less k xs h.2))
    (λ (other : x ≡ suc k → ⊥). subst (Within k) (sym (without_other (suc k) x xs other)) (h.0, omega (arith, h.1, other), within_less k xs h.2))
    (cases_eq x (suc k))

absent_without : (k c : ℕ) (xs : List ℕ) → Absent c xs → Absent c (without k xs)
absent_without k c [] h = tt
absent_without k c (x ∷ xs) h = ⊎_elim
    (λ (same : x ≡ k). subst (Absent c) (sym (without_same k x xs same)) (absent_without k c xs h.1))
    (λ (other : x ≡ k → ⊥). subst (Absent c) (sym (without_other k x xs other)) (h.0, absent_without k c xs h.1))
    (cases_eq x k)

no_repeat_without : (k : ℕ) (xs : List ℕ) → NoRepeat xs → NoRepeat (without k xs)
no_repeat_without k [] h = tt
no_repeat_without k (x ∷ xs) h = ⊎_elim
    (λ (same : x ≡ k). subst NoRepeat (sym (without_same k x xs same)) (no_repeat_without k xs h.1))
    (λ (other : x ≡ k → ⊥). subst NoRepeat (sym (without_other k x xs other)) (absent_without k x xs h.0, no_repeat_without k xs h.1))
    (cases_eq x k)

without_absent : (k : ℕ) (xs : List ℕ) → Absent k xs → without k xs ≡ xs
without_absent k [] h = refl
without_absent k (x ∷ xs) h = without_other k x xs h.0 ∙ ap (λ z. x ∷ z) (without_absent k xs h.1)

without_len : (k : ℕ) (xs : List ℕ) → NoRepeat xs → length xs ≤ length (without k xs) + 1
without_len k [] h = omega arith
without_len k (x ∷ xs) h = ⊎_elim
    (λ (same : x ≡ k). let rest : without k xs ≡ xs = without_absent k xs (subst (λ c. Absent c xs) same h.0) in omega (arith, ap length (without_same k x xs same), ap length rest))
    (λ (other : x ≡ k → ⊥). omega (arith, ap length (without_other k x xs other), without_len k xs h.1))
    (cases_eq x k)

-- of the numbers from 1 to k a list without repetition has at most k
few : (k : ℕ) (xs : List ℕ) → NoRepeat xs → Within k xs → length xs ≤ k
few k [] h w = omega arith
few zero (x ∷ xs) h w = absurd (omega (arith, w.0, w.1))
few (suc k) (x ∷ xs) h w = omega (arith, without_len (suc k) (x ∷ xs) h, few k (without (suc k) (x ∷ xs)) (no_repeat_without (suc k) (x ∷ xs) h) (within_less k (x ∷ xs) w))

-- paths that come to no number twice

abbrev Simple : Edges → ℕ → List ℕ → ℕ → Type 0
Simple edges c path d = IsPath edges c path d × NoRepeat path × Absent c path

-- the rest of a path from a number on that it comes to
from_there : (edges : Edges) (c x d : ℕ) (path : List ℕ) → Simple edges x path d → (x ≡ c) ⊎ Present c path → (rest : List ℕ) × Simple edges c rest d
from_there edges c x d path s (inl same) = (path, subst (λ y. Simple edges y path d) same s)
from_there edges c x d [] s (inr p) = absurd p
from_there edges c x d (y ∷ path) s (inr p) = from_there edges c y d path (s.0.1, s.1.1, s.1.0) p

simple : (edges : Edges) (c d : ℕ) (path : List ℕ) → IsPath edges c path d → (short : List ℕ) × Simple edges c short d
simple edges c d [] p = ([], (p, tt, tt))
simple edges c d (x ∷ path) p =
    let s = simple edges x d path p.1 in
    ⊎_elim
    (λ (there : Present c (x ∷ s.0)). from_there edges c x d s.0 s.1 there)
    (λ (absent : Absent c (x ∷ s.0)). (x ∷ s.0, ((p.0, s.1.0), (s.1.2, s.1.1), absent)))
    (present_or_absent c (x ∷ s.0))

path_within : (edges : Edges) → IsAmongContainers edges → (c d : ℕ) (path : List ℕ) → IsPath edges c path d → Within 40 path
path_within edges among c d [] p = tt
path_within edges among c d (x ∷ path) p = let ends = among c x p.0 in (ends.2, omega (arith, ends.3), path_within edges among x d path p.1)

-- the search over all numbers below 41

some_of : (p : ℕ → Bool) (xs : List ℕ) → list_any p xs ≡ true → (x : ℕ) × (p x ≡ true)
some_of p [] e = absurd (false≢true e)
some_of p (x ∷ xs) e = by (λ f. some_of p xs f) (p x) refl e
  where
    by : (list_any p xs ≡ true → (x : ℕ) × (p x ≡ true)) → (b : Bool) → p x ≡ b → (b || list_any p xs) ≡ true → (x : ℕ) × (p x ≡ true)
    by more true is f = (x, is)
    by more false is f = more f

any_in_front : (p : ℕ → Bool) (xs ys : List ℕ) → list_any p xs ≡ true → list_any p (xs ++ ys) ≡ true
any_in_front p [] ys e = absurd (false≢true e)
any_in_front p (x ∷ xs) ys e = by (λ f. any_in_front p xs ys f) (p x) e
  where
    by : (list_any p xs ≡ true → list_any p (xs ++ ys) ≡ true) → (b : Bool) → (b || list_any p xs) ≡ true → (b || list_any p (xs ++ ys)) ≡ true
    by more true f = refl
    by more false f = more f

any_behind : (p : ℕ → Bool) (xs : List ℕ) (y : ℕ) → p y ≡ true → list_any p (xs ++ y ∷ []) ≡ true
any_behind p [] y e = ap (λ b. b || false) e
any_behind p (x ∷ xs) y e = by (p x) (any_behind p xs y e)
  where
    by : (b : Bool) → list_any p (xs ++ y ∷ []) ≡ true → (b || list_any p (xs ++ y ∷ [])) ≡ true
    by true f = refl
    by false f = f

any_below : (p : ℕ → Bool) (n x : ℕ) → x < n → p x ≡ true → list_any p (upto n) ≡ true
any_below p zero x l e = absurd (omega arith)
any_below p (suc n) x l e = ⊎_elim
    (λ (same : x ≡ n). any_behind p (upto n) n (ap p (sym same) ∙ e))
    (λ (other : x ≡ n → ⊥). any_in_front p (upto n) (n ∷ []) (any_below p n x (omega arith) e))
    (cases_eq x n)

path_found : (n : ℕ) (edges : Edges) (c d : ℕ) → leads n edges c d ≡ true → (path : List ℕ) × IsPath edges c path d
path_found zero edges c d e = ([], eqb-true c d e)
path_found (suc n) edges c d e = ⊎_elim
    (λ (same : (c == d) ≡ true). ([], eqb-true c d same))
    (λ (more : list_any (λ x. nat_lt 0 (edges c x) && leads n edges x d) (upto 41) ≡ true).
    let x = some_of (λ x. nat_lt 0 (edges c x) && leads n edges x d) (upto 41) more in
    let parts = and_parts (nat_lt 0 (edges c x.0)) (leads n edges x.0 d) x.1 in
    let rest = path_found n edges x.0 d parts.1 in
    (x.0 ∷ rest.0, (ltb-true 0 (edges c x.0) parts.0, rest.1)))
    (or_cases (c == d) (list_any (λ x. nat_lt 0 (edges c x) && leads n edges x d) (upto 41)) e)

found_path : (n : ℕ) (edges : Edges) → IsAmongContainers edges → (c d : ℕ) (path : List ℕ) → length path ≤ n → IsPath edges c path d → leads n edges c d ≡ true
found_path zero edges among c d [] l p = eq-eqb c d p
found_path zero edges among c d (x ∷ path) l p = absurd (omega arith)
found_path (suc n) edges among c d [] l p = ap (λ b. b || list_any (λ x. nat_lt 0 (edges c x) && leads n edges x d) (upto 41)) (eq-eqb c d p)
found_path (suc n) edges among c d (x ∷ path) l p =
    let here : (nat_lt 0 (edges c x) && leads n edges x d) ≡ true = ap (λ b. b && leads n edges x d) (lt-ltb 0 (edges c x) p.0) ∙ found_path n edges among x d path (omega arith) p.1 in
    or_true (c == d) (any_below (λ y. nat_lt 0 (edges c y) && leads n edges y d) 41 x (among c x p.0).3 here)
  where
    or_true : (a : Bool) {b : Bool} → b ≡ true → (a || b) ≡ true
    or_true true e = refl
    or_true false e = e

pub circle_found : (edges : Edges) (c d n : ℕ) → IsAmongContainers edges → 40 ≤ n → IsTrue (leads n edges d c) ↔ ClosesCircle edges c d
circle_found edges c d n among large = (
  λ e. path_found n edges d c e,
  λ path. let s = simple edges d c path.0 path.1 in
      found_path n edges among d c s.0 (omega (arith, few 40 s.0 s.1.1 (path_within edges among d c s.0 s.1.0))) s.1.0,
)
