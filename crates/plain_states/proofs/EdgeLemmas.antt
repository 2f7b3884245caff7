-- The edges of a newborn container.
use Rattle.std.proofs.Common.{◌≡◌, ℕ, zero, suc, ◌+◌, ◌<◌, ◌≤◌, ⊎_elim, Bool, true, false, ◌&&◌, if◌then◌else◌, ◌==◌, nat_lt, IsTrue, List, [], ◌∷◌, ◌++◌, refl, sym, ap, subst, ◌∙◌, arith, eqb-true, eq-eqb}
use Rattle.std.specs.List.{All}
use Rattle.std.proofs.lemmas.Bool.{cases_lt}
use Rattle.std.proofs.lemmas.Bool.Decides.{nat_tests}
use Rattle.std.proofs.lemmas.List.{append_assoc, append-nil}
use Rattle.std.proofs.lemmas.List.Elements.{All-append, All-cons, All-head, All-nil, All-tail, All-weaker}
use Rattle.base_types.specs.declared.capabilities.Region.{Region}
use Rattle.plain_states.specs.Born.{AreAscending, AreEdges, is_before, edge_to, edges_below, shown}
use Rattle.plain_states.specs.Plains.{edges_of}
use Rattle.plain_states.specs.declared.plain.Edge.{Edge}

-- EDGES IN A LIST

abbrev pub edge : ℕ → ℕ → ℕ → Edge
edge from to count = record { from = from; to = to; count = count }

-- each edge in the list counts for its containers
pub counted : (es : List Edge) → All (λ (e : Edge). 1 ≤ e.count) es → All (λ (e : Edge). 1 ≤ edges_of es e.from e.to) es
counted [] all = All-nil (λ (e : Edge). 1 ≤ edges_of [] e.from e.to)
counted (f ∷ fs) all =
    All-cons (λ (e : Edge). 1 ≤ edges_of (f ∷ fs) e.from e.to) f fs (through f (λ differ. absurd (differ (both f))))
    (All-weaker (λ (e : Edge). 1 ≤ edges_of fs e.from e.to) (λ (e : Edge). 1 ≤ edges_of (f ∷ fs) e.from e.to) (λ e h. through e (λ _. h)) fs (counted fs (All-tail (λ (e : Edge). 1 ≤ e.count) f fs all)))
  where
    both : (e : Edge) → (e.from == e.from && e.to == e.to) ≡ true
    both e = grind (arith, nat_tests)

    through : (e : Edge) → (((f.from == e.from && f.to == e.to) ≡ true → ⊥) → 1 ≤ edges_of fs e.from e.to) → 1 ≤ edges_of (f ∷ fs) e.from e.to
    through e else' =
        elim (f.from == e.from && f.to == e.to) as (λ b. ((b ≡ true → ⊥) → 1 ≤ edges_of fs e.from e.to) → 1 ≤ (if b then f.count else edges_of fs e.from e.to)) [
          | true ↦ λ _. All-head (λ (e : Edge). 1 ≤ e.count) f fs all
          | false ↦ λ h. h (λ t. cc)
        ] else'

-- each edge is before the one from n to k
abbrev pub AllBefore : ℕ → ℕ → List Edge → Type 0
AllBefore n k es = All (λ e. IsTrue (is_before e (edge n k 0))) es

before_apart : (e : Edge) (n k : ℕ) → IsTrue (is_before e (edge n k 0)) → (e.from == n && e.to == k) ≡ false
before_apart e n k h = grind (arith, nat_tests)

before_next : (e : Edge) (n k : ℕ) → IsTrue (is_before e (edge n k 0)) → IsTrue (is_before e (edge n (k + 1) 0))
before_next e n k h = grind (arith, nat_tests)

itself_before : (n k c : ℕ) → IsTrue (is_before (edge n k c) (edge n (k + 1) 0))
itself_before n k c = grind (arith, nat_tests)

-- an edge behind all others
at_end : (es : List Edge) (n k c x y : ℕ) → AllBefore n k es → edges_of (es ++ edge n k c ∷ []) x y ≡ (if n == x && k == y then c else edges_of es x y)
at_end [] n k c x y all = refl
at_end (e ∷ es) n k c x y all =
    let rest = at_end es n k c x y (All-tail (λ e. IsTrue (is_before e (edge n k 0))) e es all) in
    let apart = before_apart e n k (All-head (λ e. IsTrue (is_before e (edge n k 0))) e es all) in
    by_tests (e.from == x && e.to == y) (n == x && k == y) (never e x y apart) rest
  where
    by_tests : (a b : Bool) → (a ≡ true → b ≡ true → ⊥) → edges_of (es ++ edge n k c ∷ []) x y ≡ (if b then c else edges_of es x y)
        → (if a then e.count else edges_of (es ++ edge n k c ∷ []) x y) ≡ (if b then c else if a then e.count else edges_of es x y)
    by_tests true true apart h = absurd (apart refl refl)
    by_tests true false apart h = refl
    by_tests false true apart h = h
    by_tests false false apart h = h

    never : (e : Edge) (x y : ℕ) → (e.from == n && e.to == k) ≡ false → (e.from == x && e.to == y) ≡ true → (n == x && k == y) ≡ true → ⊥
    never e x y apart here there = grind (arith, nat_tests)

none_there : (es : List Edge) (n k : ℕ) → AllBefore n k es → edges_of es n k ≡ 0
none_there [] n k all = refl
none_there (e ∷ es) n k all =
    let apart = before_apart e n k (All-head (λ e. IsTrue (is_before e (edge n k 0))) e es all) in
    rw apart (none_there es n k (All-tail (λ e. IsTrue (is_before e (edge n k 0))) e es all))

-- a counted edge behind all others, where it counts something
counted_end : (es : List Edge) (n k c x y : ℕ) → AllBefore n k es → edges_of (es ++ edge_to n k c) x y ≡ (if n == x && k == y then c else edges_of es x y)
counted_end es n k c x y all =
    elim (c == 0) as (λ b. (c == 0) ≡ b → edges_of (es ++ (if b then [] else edge n k c ∷ [])) x y ≡ (if n == x && k == y then c else edges_of es x y)) [
      | true ↦ λ is. rw append-nil (none (n == x && k == y) refl (eqb-true c 0 is))
      | false ↦ λ _. at_end es n k c x y all
    ] refl
  where
    none : (b : Bool) → (n == x && k == y) ≡ b → c ≡ 0 → edges_of es x y ≡ (if b then c else edges_of es x y)
    none true is zero' =
        let both : (n ≡ x) × (k ≡ y) = grind (arith, nat_tests) in
        (λ i. edges_of es (sym both.0 i) (sym both.1 i)) ∙ none_there es n k all ∙ sym zero'
    none false is zero' = refl

-- what grows by the edges of n to the numbers below k
pub record Grown (es : List Edge) (n k : ℕ) (fs : List Edge) (rs : List Region) : Type 0 where
  pub before : AllBefore n k fs
  pub edges : AreEdges fs
  pub counts : (x y : ℕ) → edges_of fs x y ≡ (if n == x && nat_lt y k then shown rs y else edges_of es x y)

ascending_end : (es : List Edge) (n k c : ℕ) → AllBefore n k es → AreAscending es → AreAscending (es ++ edge n k c ∷ [])
ascending_end [] n k c all h = (All-nil (λ f. IsTrue (is_before (edge n k c) f)), tt)
ascending_end (e ∷ es) n k c all h =
    let head : IsTrue (is_before e (edge n k c)) = All-head (λ e. IsTrue (is_before e (edge n k 0))) e es all in (
      All-append (λ f. IsTrue (is_before e f)) es (edge n k c ∷ []) h.0 (All-cons (λ f. IsTrue (is_before e f)) (edge n k c) [] head (All-nil (λ f. IsTrue (is_before e f)))),
      ascending_end es n k c (All-tail (λ e. IsTrue (is_before e (edge n k 0))) e es all) h.1,
    )

edges_end : (es : List Edge) (n k c : ℕ) → AllBefore n k es → AreEdges es → AreEdges (es ++ edge_to n k c)
edges_end es n k c all h =
    elim (c == 0) as (λ b. (c == 0) ≡ b → AreEdges (es ++ (if b then [] else edge n k c ∷ []))) [
      | true ↦ λ _. rw append-nil h
      | false ↦ λ is. record {
        ascending = ascending_end es n k c all h.ascending;
        counts = All-append (λ (e : Edge). 1 ≤ e.count) es (edge n k c ∷ []) h.counts (All-cons (λ (e : Edge). 1 ≤ e.count) (edge n k c) [] (let pos : 1 ≤ c = grind (arith, nat_tests) in pos) (All-nil (λ (e : Edge). 1 ≤ e.count)));
      }
    ] refl

before_end : (es : List Edge) (n k c : ℕ) → AllBefore n k es → AllBefore n (k + 1) (es ++ edge_to n k c)
before_end es n k c all =
    let kept : AllBefore n (k + 1) es = All-weaker (λ e. IsTrue (is_before e (edge n k 0))) (λ e. IsTrue (is_before e (edge n (k + 1) 0))) (λ e h. before_next e n k h) es all in
    elim (c == 0) as (λ b. AllBefore n (k + 1) (es ++ (if b then [] else edge n k c ∷ []))) [
      | true ↦ rw append-nil kept
      | false ↦ All-append (λ e. IsTrue (is_before e (edge n (k + 1) 0))) es (edge n k c ∷ []) kept
          (All-cons (λ e. IsTrue (is_before e (edge n (k + 1) 0))) (edge n k c) [] (itself_before n k c) (All-nil (λ e. IsTrue (is_before e (edge n (k + 1) 0)))))
    ]

pub grown : (es : List Edge) (n k : ℕ) (rs : List Region) → AllBefore n 0 es → AreEdges es → Grown es n k (es ++ edges_below n rs k) rs
grown es n zero rs all h = rw append-nil (record { before = all; edges = h; counts = λ x y. sym (nothing (n == x) x y) })
  where
    nothing : (b : Bool) (x y : ℕ) → (if b && nat_lt y 0 then shown rs y else edges_of es x y) ≡ edges_of es x y
    nothing b x y =
        let no : nat_lt y 0 ≡ false = grind (arith, nat_tests) in
        elim b as (λ b. (if b && nat_lt y 0 then shown rs y else edges_of es x y) ≡ edges_of es x y) [ true ↦ rw no refl | false ↦ refl ]
grown es n (suc k) rs all h =
    let so_far = grown es n k rs all h in
    let fs = es ++ edges_below n rs k in
    let next : k + 1 ≡ suc k = omega arith in
    subst (λ gs. Grown es n (suc k) gs rs) (append_assoc es (edges_below n rs k) (edge_to n k (shown rs k)))
    (record {
      before = subst (λ m. AllBefore n m (fs ++ edge_to n k (shown rs k))) next (before_end fs n k (shown rs k) so_far.before);
      edges = edges_end fs n k (shown rs k) so_far.before so_far.edges;
      counts = λ x y. counted_end fs n k (shown rs k) x y so_far.before ∙ step x y (edges_of fs x y) (so_far.counts x y);
    })
  where
    step : (x y v : ℕ) → v ≡ (if n == x && nat_lt y k then shown rs y else edges_of es x y) → (if n == x && k == y then shown rs k else v) ≡ (if n == x && nat_lt y (suc k) then shown rs y else edges_of es x y)
    step x y v is =
        elim (n == x) as (λ a. v ≡ (if a && nat_lt y k then shown rs y else edges_of es x y) → (if a && k == y then shown rs k else v) ≡ (if a && nat_lt y (suc k) then shown rs y else edges_of es x y)) [
          | true ↦ λ is. elim (k == y) as (λ b. (k == y) ≡ b → (if b then shown rs k else v) ≡ (if nat_lt y (suc k) then shown rs y else edges_of es x y)) [
            | true ↦ λ at.
                let e : k ≡ y = eqb-true k y at in
                let lt : nat_lt y (suc k) ≡ true = grind (arith, nat_tests) in
                rw lt (ap (shown rs) e)
            | false ↦ λ at.
                let same : nat_lt y (suc k) ≡ nat_lt y k = grind (arith, nat_tests) in
                rw same is
          ] refl
          | false ↦ λ is. is
        ] is

-- the edges of n, whose regions show lower numbers alone, behind those of lower numbers
pub plain_edges : (es : List Edge) (n : ℕ) (rs : List Region) → AllBefore n 0 es → AreEdges es → ((y : ℕ) → n ≤ y → shown rs y ≡ 0) → ((y : ℕ) → edges_of es n y ≡ 0) → (x y : ℕ)
    → edges_of (es ++ edges_below n rs n) x y ≡ edges_of es x y + (if x == n then shown rs y else 0)
plain_edges es n rs all h low none x y =
    (grown es n n rs all h).counts x y ∙
    elim (x == n) as (λ b. (x == n) ≡ b → (if n == x && nat_lt y n then shown rs y else edges_of es x y) ≡ edges_of es x y + (if b then shown rs y else 0)) [
      | true ↦ λ is.
          let e : x ≡ n = eqb-true x n is in
          let back : (n == x) ≡ true = eq-eqb n x (sym e) in
          let zero' : edges_of es x y ≡ 0 = ap (λ z. edges_of es z y) e ∙ none y in
          rw back (⊎_elim {C = (if nat_lt y n then shown rs y else edges_of es x y) ≡ edges_of es x y + shown rs y}
          (λ (lt : y < n). let b : nat_lt y n ≡ true = grind (arith, nat_tests) in rw b (omega (arith, zero')))
          (λ (ge : n ≤ y). let b : nat_lt y n ≡ false = grind (arith, nat_tests) in rw b (omega (arith, low y ge)))
          (cases_lt y n))
      | false ↦ λ is.
          let back : (n == x) ≡ false = grind (arith, nat_tests) in
          rw back (omega arith)
    ] refl
