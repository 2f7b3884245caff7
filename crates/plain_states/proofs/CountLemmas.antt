-- One edge more and one less in the list: the model's counts, and the order.
use Rattle.std.proofs.Common.{◌≡◌, ℕ, zero, suc, ◌+◌, ◌-◌, ◌<◌, ◌≤◌, Bool, true, false, not, ◌&&◌, if◌then◌else◌, ◌==◌, nat_lt, IsTrue, List, [], ◌∷◌, length, set, get_or, refl, sym, ap, subst, ◌∙◌, arith, eqb-true}
use Rattle.std.specs.List.{All, insert, remove, position_or_len}
use Rattle.std.proofs.lemmas.Bool.Decides.{nat_tests}
use Rattle.std.proofs.lemmas.List.Elements.{All-cons, All-head, All-nil, All-tail, All-weaker}
use Rattle.model_kernel.specs.Words.{put}
use Rattle.plain_states.specs.EdgeLists.{edge_less, edge_more, is_edge, is_reached}
use Rattle.plain_states.specs.Born.{AreAscending, AreEdges, is_before}
use Rattle.plain_states.specs.Plains.{edges_of}
use Rattle.plain_states.specs.declared.plain.Edge.{Edge}
use Rattle.plain_states.proofs.EdgeLemmas.{edge}

-- WHERE THE CODE WRITES

-- two reads of one place
pub same_read : (es : List Edge) (n : ℕ) (e f : Edge) → n < length es → e ≡ get_or es n e → f ≡ get_or es n f → e ≡ f
same_read [] n e f lt p q = absurd (omega arith)
same_read (g ∷ es) zero e f lt p q = p ∙ sym q
same_read (g ∷ es) (suc n) e f lt p q = same_read es n e f (omega arith) p q

-- the edge is there, and counts one more
more_there : (from to : ℕ) (es : List Edge) (f : Edge) → position_or_len (is_reached from to) es < length es → f ≡ get_or es (position_or_len (is_reached from to) es) f → is_edge from to f ≡ true
    → set es (position_or_len (is_reached from to) es) (edge f.from f.to (f.count + 1)) ≡ edge_more from to es
more_there from to [] f lt at is = absurd (omega arith)
more_there from to (e ∷ es) f lt at is =
    let n = position_or_len (is_reached from to) es in
    elim (is_reached from to e) as (λ b. (if not b then 1 + n else 0) < length (e ∷ es) → f ≡ get_or (e ∷ es) (if not b then 1 + n else 0) f
    → set (e ∷ es) (if not b then 1 + n else 0) (edge f.from f.to (f.count + 1))
    ≡ (if b then if is_edge from to e then edge e.from e.to (e.count + 1) ∷ es else edge from to 1 ∷ e ∷ es else e ∷ edge_more from to es)) [
      | true ↦ λ lt at. (
          let here : is_edge from to e ≡ true = subst (λ g. is_edge from to g ≡ true) at is in
          rw here (ap (λ (g : Edge). edge g.from g.to (g.count + 1) ∷ es) at))
      | false ↦ (
          let one : 1 + n ≡ suc n = omega arith in
          rw one (λ lt at. ap (λ l. e ∷ l) (more_there from to es f (omega arith) at is)))
    ] lt at

-- the edge isn't there, and is put in
more_new : (from to : ℕ) (es : List Edge) → ((e : Edge) → position_or_len (is_reached from to) es < length es → e ≡ get_or es (position_or_len (is_reached from to) es) e → is_edge from to e ≡ false)
    → insert es (position_or_len (is_reached from to) es) (edge from to 1) ≡ edge_more from to es
more_new from to [] not_there = refl
more_new from to (e ∷ es) not_there =
    let n = position_or_len (is_reached from to) es in
    elim (is_reached from to e) as (λ b. ((f : Edge) → (if not b then 1 + n else 0) < length (e ∷ es) → f ≡ get_or (e ∷ es) (if not b then 1 + n else 0) f → is_edge from to f ≡ false)
    → insert (e ∷ es) (if not b then 1 + n else 0) (edge from to 1) ≡ (if b then if is_edge from to e then edge e.from e.to (e.count + 1) ∷ es else edge from to 1 ∷ e ∷ es else e ∷ edge_more from to es)) [
      | true ↦ λ h. rw (h e (omega arith) refl) refl
      | false ↦
          let one : 1 + n ≡ suc n = omega arith in
          rw one (λ h. ap (λ l. e ∷ l) (more_new from to es (λ f lt is. h f (omega arith) is)))
    ] not_there

-- no edge is the one
less_none : (from to : ℕ) (es : List Edge) → length es ≤ position_or_len (is_edge from to) es → es ≡ edge_less from to es
less_none from to [] le = refl
less_none from to (e ∷ es) le =
    let n = position_or_len (is_edge from to) es in
    elim (is_edge from to e) as (λ b. length (e ∷ es) ≤ (if not b then 1 + n else 0) → e ∷ es ≡ (if b then if nat_lt 1 e.count then edge e.from e.to (e.count - 1) ∷ es else es else e ∷ edge_less from to es)) [
      | true ↦ λ le. absurd (omega arith)
      | false ↦ λ le. ap (λ l. e ∷ l) (less_none from to es (omega arith))
    ] le

-- the edge counts one less
less_there : (from to : ℕ) (es : List Edge) (f : Edge) → position_or_len (is_edge from to) es < length es → f ≡ get_or es (position_or_len (is_edge from to) es) f → 1 < f.count
    → set es (position_or_len (is_edge from to) es) (edge f.from f.to (f.count - 1)) ≡ edge_less from to es
less_there from to [] f lt at some = absurd (omega arith)
less_there from to (e ∷ es) f lt at some =
    let n = position_or_len (is_edge from to) es in
    elim (is_edge from to e) as (λ b. (if not b then 1 + n else 0) < length (e ∷ es) → f ≡ get_or (e ∷ es) (if not b then 1 + n else 0) f
    → set (e ∷ es) (if not b then 1 + n else 0) (edge f.from f.to (f.count - 1))
    ≡ (if b then if nat_lt 1 e.count then edge e.from e.to (e.count - 1) ∷ es else es else e ∷ edge_less from to es)) [
      | true ↦ λ lt at. (
          let same : f.count ≡ e.count = ap (λ (g : Edge). g.count) at in
          let more : nat_lt 1 e.count ≡ true = grind (arith, nat_tests) in
          rw more (ap (λ (g : Edge). edge g.from g.to (g.count - 1) ∷ es) at))
      | false ↦ (
          let one : 1 + n ≡ suc n = omega arith in
          rw one (λ lt at. ap (λ l. e ∷ l) (less_there from to es f (omega arith) at some)))
    ] lt at

-- or is gone
less_gone : (from to : ℕ) (es : List Edge) (f : Edge) → position_or_len (is_edge from to) es < length es → f ≡ get_or es (position_or_len (is_edge from to) es) f → f.count ≤ 1
    → remove es (position_or_len (is_edge from to) es) ≡ edge_less from to es
less_gone from to [] f lt at few = absurd (omega arith)
less_gone from to (e ∷ es) f lt at few =
    let n = position_or_len (is_edge from to) es in
    elim (is_edge from to e) as (λ b. (if not b then 1 + n else 0) < length (e ∷ es) → f ≡ get_or (e ∷ es) (if not b then 1 + n else 0) f
    → remove (e ∷ es) (if not b then 1 + n else 0) ≡ (if b then if nat_lt 1 e.count then edge e.from e.to (e.count - 1) ∷ es else es else e ∷ edge_less from to es)) [
      | true ↦ λ lt at. (
          let same : f.count ≡ e.count = ap (λ (g : Edge). g.count) at in
          let more : nat_lt 1 e.count ≡ false = grind (arith, nat_tests) in
          rw more refl)
      | false ↦ (
          let one : 1 + n ≡ suc n = omega arith in
          rw one (λ lt at. ap (λ l. e ∷ l) (less_gone from to es f (omega arith) at few)))
    ] lt at

-- the same, at a place that is found
module _ (from to : ℕ) (es : List Edge) (n : ℕ) where
  pub more_there_at : n ≡ position_or_len (is_reached from to) es → (f : Edge) → n < length es → f ≡ get_or es n f → is_edge from to f ≡ true → set es n (edge f.from f.to (f.count + 1)) ≡ edge_more from to es
  more_there_at at f = subst (λ m. m < length es → f ≡ get_or es m f → is_edge from to f ≡ true → set es m (edge f.from f.to (f.count + 1)) ≡ edge_more from to es) (sym at) (more_there from to es f)

  pub more_new_at : n ≡ position_or_len (is_reached from to) es → ((e : Edge) → n < length es → e ≡ get_or es n e → is_edge from to e ≡ false) → insert es n (edge from to 1) ≡ edge_more from to es
  more_new_at at = subst (λ m. ((e : Edge) → m < length es → e ≡ get_or es m e → is_edge from to e ≡ false) → insert es m (edge from to 1) ≡ edge_more from to es) (sym at) (more_new from to es)

  pub less_none_at : n ≡ position_or_len (is_edge from to) es → length es ≤ n → es ≡ edge_less from to es
  less_none_at at = subst (λ m. length es ≤ m → es ≡ edge_less from to es) (sym at) (less_none from to es)

  pub less_there_at : n ≡ position_or_len (is_edge from to) es → (f : Edge) → n < length es → f ≡ get_or es n f → 1 < f.count → set es n (edge f.from f.to (f.count - 1)) ≡ edge_less from to es
  less_there_at at f = subst (λ m. m < length es → f ≡ get_or es m f → 1 < f.count → set es m (edge f.from f.to (f.count - 1)) ≡ edge_less from to es) (sym at) (less_there from to es f)

  pub less_gone_at : n ≡ position_or_len (is_edge from to) es → (f : Edge) → n < length es → f ≡ get_or es n f → f.count ≤ 1 → remove es n ≡ edge_less from to es
  less_gone_at at f = subst (λ m. m < length es → f ≡ get_or es m f → f.count ≤ 1 → remove es m ≡ edge_less from to es) (sym at) (less_gone from to es f)

-- THE MODEL'S COUNTS

-- an edge behind another is another
apart_before : (e f : Edge) → IsTrue (is_before e f) → (f.from == e.from && f.to == e.to) ≡ false
apart_before e f h = grind (arith, nat_tests)

apart_behind : (e f : Edge) → IsTrue (is_before e f) → (e.from == f.from && e.to == f.to) ≡ false
apart_behind e f h = grind (arith, nat_tests)

-- what stands behind an edge counts nothing for it
none_behind : (from to : ℕ) (es : List Edge) → All (λ e. IsTrue (is_before (edge from to 0) e)) es → edges_of es from to ≡ 0
none_behind from to [] all = refl
none_behind from to (e ∷ es) all =
    let off : (e.from == from && e.to == to) ≡ false = apart_before (edge from to 0) e (All-head (λ e. IsTrue (is_before (edge from to 0) e)) e es all) in
    rw off (none_behind from to es (All-tail (λ e. IsTrue (is_before (edge from to 0) e)) e es all))

before_both : (from to : ℕ) (e f : Edge) → IsTrue (is_before (edge from to 0) e) → IsTrue (is_before e f) → IsTrue (is_before (edge from to 0) f)
before_both from to e f h k = grind (arith, nat_tests)

-- an edge that is reached and isn't the one stands behind it
behind : (from to : ℕ) (e : Edge) → is_reached from to e ≡ true → is_edge from to e ≡ false → IsTrue (is_before (edge from to 0) e)
behind from to e h k = grind (arith, nat_tests)

not_reached : (from to : ℕ) (e : Edge) → is_reached from to e ≡ false → (e.from == from && e.to == to) ≡ false
not_reached from to e h = grind (arith, nat_tests)

all_behind : (from to : ℕ) (e : Edge) (es : List Edge) → IsTrue (is_before (edge from to 0) e) → All (λ f. IsTrue (is_before e f)) es → All (λ f. IsTrue (is_before (edge from to 0) f)) (e ∷ es)
all_behind from to e es h all = All-cons (λ f. IsTrue (is_before (edge from to 0) f)) e es h (All-weaker (λ f. IsTrue (is_before e f)) (λ f. IsTrue (is_before (edge from to 0) f)) (λ f k. before_both from to e f h k) es all)

-- two pairs of numbers that are one
pub same_pair : (e : Edge) (from to : ℕ) → (e.from == from && e.to == to) ≡ true → (e.from ≡ from) × (e.to ≡ to)
same_pair e from to h = grind (arith, nat_tests)

-- an edge of the list has its count
pub count_at : (es : List Edge) (n : ℕ) (f : Edge) → AreAscending es → n < length es → f ≡ get_or es n f → edges_of es f.from f.to ≡ f.count
count_at [] n f h lt at = absurd (omega arith)
count_at (e ∷ es) zero f h lt at =
    let p : f.from ≡ e.from = ap (λ (g : Edge). g.from) at in
    let q : f.to ≡ e.to = ap (λ (g : Edge). g.to) at in
    let here : (e.from == f.from && e.to == f.to) ≡ true = grind (arith, nat_tests) in
    rw here (ap (λ (g : Edge). g.count) (sym at))
count_at (e ∷ es) (suc n) f h lt at =
    let later : IsTrue (is_before e f) = subst (λ g. IsTrue (is_before e g)) (sym at) (h.0 n f (omega arith)) in
    let off : (e.from == f.from && e.to == f.to) ≡ false = apart_behind e f later in
    rw off (count_at es n f h.1 (omega arith) at)

-- the count at a pair, in a list that begins with one for the pair or another
pub counts_more : (from to : ℕ) (es : List Edge) → AreAscending es → (x y : ℕ) → edges_of (edge_more from to es) x y ≡ (if from == x && to == y then edges_of es from to + 1 else edges_of es x y)
counts_more from to [] h x y = elim (from == x && to == y) as (λ b. (if b then 1 else 0) ≡ (if b then 0 + 1 else 0)) [ true ↦ refl | false ↦ refl ]
counts_more from to (e ∷ es) h x y =
    by_place (is_reached from to e) (is_edge from to e) refl refl (counts_more from to es h.1 x y)
  where
    by_place : (r s : Bool) → is_reached from to e ≡ r → is_edge from to e ≡ s → edges_of (edge_more from to es) x y ≡ (if from == x && to == y then edges_of es from to + 1 else edges_of es x y)
        → edges_of (if r then if s then edge e.from e.to (e.count + 1) ∷ es else edge from to 1 ∷ e ∷ es else e ∷ edge_more from to es) x y ≡ (if from == x && to == y then edges_of (e ∷ es) from to + 1 else edges_of (e ∷ es) x y)
    by_place true true er es' rest =
        let p = same_pair e from to es' in
        let here : edges_of (e ∷ es) from to ≡ e.count = rw es' refl in
        let q : (e.from == x && e.to == y) ≡ (from == x && to == y) = λ i. p.0 i == x && p.1 i == y in
        rw (here, q) (elim (from == x && to == y) as (λ b. (if b then e.count + 1 else edges_of es x y) ≡ (if b then e.count + 1 else if b then e.count else edges_of es x y)) [ true ↦ refl | false ↦ refl ])
    by_place true false er es' rest =
        let none : edges_of (e ∷ es) from to ≡ 0 = none_behind from to (e ∷ es) (all_behind from to e es (behind from to e er es') h.0) in
        rw none refl
    by_place false s er es' rest =
        let off : (e.from == from && e.to == to) ≡ false = not_reached from to e er in
        let here : edges_of (e ∷ es) from to ≡ edges_of es from to = rw off refl in
        rw (here, rest) (by_pair (from == x && to == y) (e.from == x && e.to == y) (never x y off))
      where
        by_pair : (a b : Bool) → (a ≡ true → b ≡ true → ⊥) → (if b then e.count else if a then edges_of es from to + 1 else edges_of es x y) ≡ (if a then edges_of es from to + 1 else if b then e.count else edges_of es x y)
        by_pair true true apart = absurd (apart refl refl)
        by_pair true false apart = refl
        by_pair false b apart = refl

        never : (x y : ℕ) → (e.from == from && e.to == to) ≡ false → (from == x && to == y) ≡ true → (e.from == x && e.to == y) ≡ true → ⊥
        never x y off a b = grind (arith, nat_tests)

pub counts_less : (from to : ℕ) (es : List Edge) → AreAscending es → All (λ (e : Edge). 1 ≤ e.count) es → (x y : ℕ) → edges_of (edge_less from to es) x y ≡ (if from == x && to == y then edges_of es from to - 1 else edges_of es x y)
counts_less from to [] h all x y = elim (from == x && to == y) as (λ b. 0 ≡ (if b then 0 - 1 else 0)) [ true ↦ refl | false ↦ refl ]
counts_less from to (e ∷ es) h all x y =
    by_place (is_edge from to e) (nat_lt 1 e.count) refl refl (counts_less from to es h.1 (All-tail (λ (e : Edge). 1 ≤ e.count) e es all) x y)
  where
    by_place : (s m : Bool) → is_edge from to e ≡ s → nat_lt 1 e.count ≡ m → edges_of (edge_less from to es) x y ≡ (if from == x && to == y then edges_of es from to - 1 else edges_of es x y)
        → edges_of (if s then if m then edge e.from e.to (e.count - 1) ∷ es else es else e ∷ edge_less from to es) x y ≡ (if from == x && to == y then edges_of (e ∷ es) from to - 1 else edges_of (e ∷ es) x y)
    by_place true true es' em rest =
        let p = same_pair e from to es' in
        let here : edges_of (e ∷ es) from to ≡ e.count = rw es' refl in
        let q : (e.from == x && e.to == y) ≡ (from == x && to == y) = λ i. p.0 i == x && p.1 i == y in
        rw (here, q) (elim (from == x && to == y) as (λ b. (if b then e.count - 1 else edges_of es x y) ≡ (if b then e.count - 1 else if b then e.count else edges_of es x y)) [ true ↦ refl | false ↦ refl ])
    by_place true false es' em rest =
        let p = same_pair e from to es' in
        let here : edges_of (e ∷ es) from to ≡ e.count = rw es' refl in
        let q : (e.from == x && e.to == y) ≡ (from == x && to == y) = λ i. p.0 i == x && p.1 i == y in
        let some : 1 ≤ e.count = All-head (λ (e : Edge). 1 ≤ e.count) e es all in
        let one : e.count ≡ 1 = grind (arith, nat_tests) in
        let gone : edges_of es from to ≡ 0 = (λ i. edges_of es (sym p.0 i) (sym p.1 i)) ∙ none_behind e.from e.to es h.0 in
        rw (here, q, one) (by_pair (from == x && to == y) refl gone)
      where
        by_pair : (b : Bool) → (from == x && to == y) ≡ b → edges_of es from to ≡ 0 → edges_of es x y ≡ (if b then 1 - 1 else if b then 1 else edges_of es x y)
        by_pair false is gone = refl
        by_pair true is gone = let q = same_pair (edge from to 0) x y is in (λ i. edges_of es (sym q.0 i) (sym q.1 i)) ∙ gone
    by_place false m es' em rest =
        let here : edges_of (e ∷ es) from to ≡ edges_of es from to = rw es' refl in
        rw (here, rest) (by_pair (from == x && to == y) (e.from == x && e.to == y) (never x y es'))
      where
        by_pair : (a b : Bool) → (a ≡ true → b ≡ true → ⊥) → (if b then e.count else if a then edges_of es from to - 1 else edges_of es x y) ≡ (if a then edges_of es from to - 1 else if b then e.count else edges_of es x y)
        by_pair true true apart = absurd (apart refl refl)
        by_pair true false apart = refl
        by_pair false b apart = refl

        never : (x y : ℕ) → (e.from == from && e.to == to) ≡ false → (from == x && to == y) ≡ true → (e.from == x && e.to == y) ≡ true → ⊥
        never x y off a b = grind (arith, nat_tests)

-- as the model puts it
put_is : (edges : ℕ → ℕ → ℕ) (c d n x y : ℕ) → (if c == x && d == y then n else edges x y) ≡ put edges c (put (edges c) d n) x y
put_is edges c d n x y = by_tests (c == x) (x == c) (d == y) (y == d) refl refl refl refl
  where
    by_tests : (p q r t : Bool) → (c == x) ≡ p → (x == c) ≡ q → (d == y) ≡ r → (y == d) ≡ t → (if p && r then n else edges x y) ≡ (if q then (λ z. if z == d then n else edges c z) else edges x) y
    by_tests true true true true ep eq er et = rw et refl
    by_tests true true false false ep eq er et = let e = eqb-true c x ep in rw et (λ i. edges (sym e i) y)
    by_tests false false r t ep eq er et = refl
    by_tests true false r t ep eq er et = absurd (grind (arith, nat_tests))
    by_tests false true r t ep eq er et = absurd (grind (arith, nat_tests))
    by_tests true true true false ep eq er et = absurd (grind (arith, nat_tests))
    by_tests true true false true ep eq er et = absurd (grind (arith, nat_tests))

pub more_is_put : (from to : ℕ) (es : List Edge) → AreAscending es → edges_of (edge_more from to es) ≡ put (edges_of es) from (put (edges_of es from) to (edges_of es from to + 1))
more_is_put from to es h = λ i x y. (counts_more from to es h x y ∙ put_is (edges_of es) from to (edges_of es from to + 1) x y) i

pub less_is_put : (from to : ℕ) (es : List Edge) → AreEdges es → edges_of (edge_less from to es) ≡ put (edges_of es) from (put (edges_of es from) to (edges_of es from to - 1))
less_is_put from to es h = λ i x y. (counts_less from to es h.ascending h.counts x y ∙ put_is (edges_of es) from to (edges_of es from to - 1) x y) i

-- THE ORDER

earlier : (from to : ℕ) (e : Edge) → is_reached from to e ≡ false → IsTrue (is_before e (edge from to 0))
earlier from to e h = grind (arith, nat_tests)

more_all : (from to : ℕ) (e : Edge) (es : List Edge) → IsTrue (is_before e (edge from to 0)) → All (λ f. IsTrue (is_before e f)) es → All (λ f. IsTrue (is_before e f)) (edge_more from to es)
more_all from to e [] h all = All-cons (λ f. IsTrue (is_before e f)) (edge from to 1) [] h all
more_all from to e (f ∷ es) h all =
    let head : IsTrue (is_before e f) = All-head (λ f. IsTrue (is_before e f)) f es all in
    let tail = All-tail (λ f. IsTrue (is_before e f)) f es all in
    elim (is_reached from to f) as (λ b. All (λ f. IsTrue (is_before e f)) (if b then if is_edge from to f then edge f.from f.to (f.count + 1) ∷ es else edge from to 1 ∷ f ∷ es else f ∷ edge_more from to es)) [
      | true ↦ elim (is_edge from to f) as (λ b. All (λ f. IsTrue (is_before e f)) (if b then edge f.from f.to (f.count + 1) ∷ es else edge from to 1 ∷ f ∷ es)) [
        | true ↦ All-cons (λ f. IsTrue (is_before e f)) (edge f.from f.to (f.count + 1)) es head tail
        | false ↦ All-cons (λ f. IsTrue (is_before e f)) (edge from to 1) (f ∷ es) h all
      ]
      | false ↦ All-cons (λ f. IsTrue (is_before e f)) f (edge_more from to es) head (more_all from to e es h tail)
    ]

more_ascending : (from to : ℕ) (es : List Edge) → AreAscending es → AreAscending (edge_more from to es)
more_ascending from to [] h = (All-nil (λ f. IsTrue (is_before (edge from to 1) f)), tt)
more_ascending from to (e ∷ es) h =
    elim (is_reached from to e) as (λ b. is_reached from to e ≡ b → AreAscending (if b then if is_edge from to e then edge e.from e.to (e.count + 1) ∷ es else edge from to 1 ∷ e ∷ es else e ∷ edge_more from to es)) [
      | true ↦ λ er. elim (is_edge from to e) as (λ b. is_edge from to e ≡ b → AreAscending (if b then edge e.from e.to (e.count + 1) ∷ es else edge from to 1 ∷ e ∷ es)) [
        | true ↦ λ _. (h.0, h.1)
        | false ↦ λ off. (all_behind from to e es (behind from to e er off) h.0, h)
      ] refl
      | false ↦ λ er. (more_all from to e es (earlier from to e er) h.0, more_ascending from to es h.1)
    ] refl

more_counts : (from to : ℕ) (es : List Edge) → All (λ (e : Edge). 1 ≤ e.count) es → All (λ (e : Edge). 1 ≤ e.count) (edge_more from to es)
more_counts from to [] all = All-cons (λ (e : Edge). 1 ≤ e.count) (edge from to 1) [] (omega arith) all
more_counts from to (e ∷ es) all =
    let head : 1 ≤ e.count = All-head (λ (e : Edge). 1 ≤ e.count) e es all in
    let tail = All-tail (λ (e : Edge). 1 ≤ e.count) e es all in
    elim (is_reached from to e) as (λ b. All (λ (e : Edge). 1 ≤ e.count) (if b then if is_edge from to e then edge e.from e.to (e.count + 1) ∷ es else edge from to 1 ∷ e ∷ es else e ∷ edge_more from to es)) [
      | true ↦ elim (is_edge from to e) as (λ b. All (λ (e : Edge). 1 ≤ e.count) (if b then edge e.from e.to (e.count + 1) ∷ es else edge from to 1 ∷ e ∷ es)) [
        | true ↦ All-cons (λ (e : Edge). 1 ≤ e.count) (edge e.from e.to (e.count + 1)) es (omega arith) tail
        | false ↦ All-cons (λ (e : Edge). 1 ≤ e.count) (edge from to 1) (e ∷ es) (omega arith) all
      ]
      | false ↦ All-cons (λ (e : Edge). 1 ≤ e.count) e (edge_more from to es) head (more_counts from to es tail)
    ]

pub more_edges : (from to : ℕ) (es : List Edge) → AreEdges es → AreEdges (edge_more from to es)
more_edges from to es h = record { ascending = more_ascending from to es h.ascending; counts = more_counts from to es h.counts }

less_all : (from to : ℕ) (e : Edge) (es : List Edge) → All (λ f. IsTrue (is_before e f)) es → All (λ f. IsTrue (is_before e f)) (edge_less from to es)
less_all from to e [] all = all
less_all from to e (f ∷ es) all =
    let head : IsTrue (is_before e f) = All-head (λ f. IsTrue (is_before e f)) f es all in
    let tail = All-tail (λ f. IsTrue (is_before e f)) f es all in
    elim (is_edge from to f) as (λ b. All (λ f. IsTrue (is_before e f)) (if b then if nat_lt 1 f.count then edge f.from f.to (f.count - 1) ∷ es else es else f ∷ edge_less from to es)) [
      | true ↦ elim (nat_lt 1 f.count) as (λ b. All (λ f. IsTrue (is_before e f)) (if b then edge f.from f.to (f.count - 1) ∷ es else es)) [
        | true ↦ All-cons (λ f. IsTrue (is_before e f)) (edge f.from f.to (f.count - 1)) es head tail
        | false ↦ tail
      ]
      | false ↦ All-cons (λ f. IsTrue (is_before e f)) f (edge_less from to es) head (less_all from to e es tail)
    ]

less_ascending : (from to : ℕ) (es : List Edge) → AreAscending es → AreAscending (edge_less from to es)
less_ascending from to [] h = tt
less_ascending from to (e ∷ es) h =
    elim (is_edge from to e) as (λ b. AreAscending (if b then if nat_lt 1 e.count then edge e.from e.to (e.count - 1) ∷ es else es else e ∷ edge_less from to es)) [
      | true ↦ elim (nat_lt 1 e.count) as (λ b. AreAscending (if b then edge e.from e.to (e.count - 1) ∷ es else es)) [ true ↦ (h.0, h.1) | false ↦ h.1 ]
      | false ↦ (less_all from to e es h.0, less_ascending from to es h.1)
    ]

less_counts : (from to : ℕ) (es : List Edge) → All (λ (e : Edge). 1 ≤ e.count) es → All (λ (e : Edge). 1 ≤ e.count) (edge_less from to es)
less_counts from to [] all = all
less_counts from to (e ∷ es) all =
    let head : 1 ≤ e.count = All-head (λ (e : Edge). 1 ≤ e.count) e es all in
    let tail = All-tail (λ (e : Edge). 1 ≤ e.count) e es all in
    elim (is_edge from to e) as (λ b. All (λ (e : Edge). 1 ≤ e.count) (if b then if nat_lt 1 e.count then edge e.from e.to (e.count - 1) ∷ es else es else e ∷ edge_less from to es)) [
      | true ↦ elim (nat_lt 1 e.count) as (λ b. nat_lt 1 e.count ≡ b → All (λ (e : Edge). 1 ≤ e.count) (if b then edge e.from e.to (e.count - 1) ∷ es else es)) [
        | true ↦ λ is. All-cons (λ (e : Edge). 1 ≤ e.count) (edge e.from e.to (e.count - 1)) es (grind (arith, nat_tests)) tail
        | false ↦ λ _. tail
      ] refl
      | false ↦ All-cons (λ (e : Edge). 1 ≤ e.count) e (edge_less from to es) head (less_counts from to es tail)
    ]

pub less_edges : (from to : ℕ) (es : List Edge) → AreEdges es → AreEdges (edge_less from to es)
less_edges from to es h = record { ascending = less_ascending from to es h.ascending; counts = less_counts from to es h.counts }

-- with the numbers as the code has them
pub counted_up : (es fs : List Edge) (m n from to : ℕ) → fs ≡ edge_more m n es → m ≡ from → n ≡ to → AreAscending es → edges_of fs ≡ put (edges_of es) from (put (edges_of es from) to (edges_of es from to + 1))
counted_up es fs m n from to is p q h = ap edges_of is ∙ (λ i. edges_of (edge_more (p i) (q i) es)) ∙ more_is_put from to es h

pub counted_down : (es fs : List Edge) (m n from to : ℕ) → fs ≡ edge_less m n es → m ≡ from → n ≡ to → AreEdges es → edges_of fs ≡ put (edges_of es) from (put (edges_of es from) to (edges_of es from to - 1))
counted_down es fs m n from to is p q h = ap edges_of is ∙ (λ i. edges_of (edge_less (p i) (q i) es)) ∙ less_is_put from to es h
