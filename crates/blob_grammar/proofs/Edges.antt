-- Edges are told by those that count.
use Rattle.std.proofs.Common.{◌≡◌, ◌<◌, ◌≤◌, ◌⊎◌, inl, inr, ℕ, zero, suc, ◌+◌, ◌*◌, ◌^◌, ◌==◌, ◌&&◌, Bool, true, false, if◌then◌else◌, List, [], ◌∷◌, ◌++◌, length, refl, sym, ap, ◌∙◌, arith, eqb-true, eq-eqb, length-append}
use Rattle.std.proofs.lemmas.Bool.{cases_lt, false≢true}
use Rattle.std.proofs.lemmas.Grind.{flat_map-append}
use Rattle.std.proofs.lemmas.List.{append-nil}
use Rattle.std.specs.List.{flat_map}
use Rattle.model_kernel.specs.base_types.Edges.{Edges, upto}
use Rattle.blob_grammar.specs.Forms.{AreCounts}
use Rattle.blob_grammar.specs.Spelling.{Counted, counted, counted_edges, edge_bytes, edges_bytes}
use Rattle.blob_grammar.proofs.Fields.{Any, all_any}
use Rattle.blob_grammar.proofs.Telling.{Tells, and_then, byte, byte_then, items, number, when}

-- WHAT A LIST OF EDGES SAYS of one edge: the sum of its counts

abbrev count_if : Bool → ℕ → ℕ
count_if b n = if b then n else 0

abbrev count_in : ℕ → ℕ → List Counted → ℕ
count_in x y [] = 0
count_in x y (e ∷ es) = count_if (e.from == x && e.to == y) e.count + count_in x y es

count_join : (x y : ℕ) (es fs : List Counted) → count_in x y (es ++ fs) ≡ count_in x y es + count_in x y fs
count_join x y [] fs = omega arith
count_join x y (e ∷ es) fs = let rest = count_join x y es fs in omega (arith, rest)

-- one edge
one_by : (edges : Edges) (x y from to : ℕ) (b : Bool) → (edges from to == 0) ≡ b
    → count_in x y (if b then [] else record { from = from; to = to; count = edges from to } ∷ []) ≡ count_if (from == x && to == y) (edges from to)
one_by edges x y from to true e = go (from == x && to == y)
  where
    none : edges from to ≡ 0
    none = eqb-true (edges from to) 0 e

    go : (b : Bool) → 0 ≡ count_if b (edges from to)
    go true = sym none
    go false = refl
one_by edges x y from to false e = omega arith

one : (edges : Edges) (x y from to : ℕ) → count_in x y (counted edges from to) ≡ count_if (from == x && to == y) (edges from to)
one edges x y from to = one_by edges x y from to (edges from to == 0) refl

-- SUMS OVER RANGES

pub next_number : (f : ℕ → List Counted) (n : ℕ) → flat_map f (upto (suc n)) ≡ flat_map f (upto n) ++ f n
next_number f n = flat_map-append f (upto n) (n ∷ []) ∙ ap (λ (es : List Counted). flat_map f (upto n) ++ es) (append-nil (f n))

count_next : (f : ℕ → List Counted) (x y n : ℕ) → count_in x y (flat_map f (upto (suc n))) ≡ count_in x y (flat_map f (upto n)) + count_in x y (f n)
count_next f x y n = ap (count_in x y) (next_number f n) ∙ count_join x y (flat_map f (upto n)) (f n)

-- where one number alone has the edge, the range has it exactly where the number is in it
module _ (f : ℕ → List Counted) (x y k : ℕ) (only : (j : ℕ) → (j ≡ k → ⊥) → count_in x y (f j) ≡ 0) where
  before : (n : ℕ) → n ≤ k → count_in x y (flat_map f (upto n)) ≡ 0
  before zero low = refl
  before (suc n) low =
      let so_far = before n (omega (arith, low)) in
      let here = only n (λ e. omega (arith, low, e)) in
      let next = count_next f x y n in
      omega (arith, so_far, here, next)

  within : (n : ℕ) → k < n → count_in x y (flat_map f (upto n)) ≡ count_in x y (f k)
  within zero low = absurd (omega (arith, low))
  within (suc n) low = elim (cases_lt k n) as (λ _. count_in x y (flat_map f (upto (suc n))) ≡ count_in x y (f k)) [
    | inl earlier ↦ (let so_far = within n earlier in let here = only n (λ e. omega (arith, earlier, e)) in let next = count_next f x y n in omega (arith, so_far, here, next))
    | inr last ↦ (
        let is : n ≡ k = omega (arith, low, last) in
        let so_far = before n (omega (arith, is)) in
        let here : count_in x y (f n) ≡ count_in x y (f k) = ap (λ m. count_in x y (f m)) is in
        let next = count_next f x y n in
        omega (arith, so_far, here, next))
  ]

-- ALL EDGES

from_other : (a x : ℕ) (b c : Bool) (n : ℕ) → (a ≡ x → ⊥) → (a == x) ≡ b → count_if (b && c) n ≡ 0
from_other a x true c n other e = absurd (other (eqb-true a x e))
from_other a x false c n other e = refl

to_other : (a y : ℕ) (b c : Bool) (n : ℕ) → (a ≡ y → ⊥) → (a == y) ≡ b → count_if (c && b) n ≡ 0
to_other a y true c n other e = absurd (other (eqb-true a y e))
to_other a y false true n other e = refl
to_other a y false false n other e = refl

same_both : (x y : ℕ) (b c : Bool) (n : ℕ) → (x == x) ≡ b → (y == y) ≡ c → count_if (b && c) n ≡ n
same_both x y true true n p q = refl
same_both x y false c n p q = absurd (false≢true (sym p ∙ eq-eqb x x refl))
same_both x y true false n p q = absurd (false≢true (sym q ∙ eq-eqb y y refl))

row_other : (edges : Edges) (x y from n : ℕ) → (from ≡ x → ⊥) → count_in x y (flat_map (counted edges from) (upto n)) ≡ 0
row_other edges x y from zero other = refl
row_other edges x y from (suc n) other =
    let so_far = row_other edges x y from n other in
    let here = one edges x y from n ∙ from_other from x (from == x) (n == y) (edges from n) other refl in
    let next = count_next (counted edges from) x y n in
    omega (arith, so_far, here, next)

row_same : (edges : Edges) (x y n : ℕ) → y < n → count_in x y (flat_map (counted edges x) (upto n)) ≡ edges x y
row_same edges x y n low =
    within (counted edges x) x y y (λ j other. one edges x y x j ∙ to_other j y (j == y) (x == x) (edges x j) other refl) n low
    ∙ one edges x y x y ∙ same_both x y (x == x) (y == y) (edges x y) refl refl

edge_by : (edges : Edges) (x y m n : ℕ) → x < m → y < n → count_in x y (flat_map (λ from. flat_map (counted edges from) (upto n)) (upto m)) ≡ edges x y
edge_by edges x y m n low small =
    within (λ from. flat_map (counted edges from) (upto n)) x y x (λ j other. row_other edges x y j n other) m low ∙ row_same edges x y n small

same_at : (e f : Edges) (x y : ℕ) → AreCounts e → AreCounts f → counted_edges e ≡ counted_edges f → e x y ≡ f x y
same_at e f x y p q same = elim (cases_lt x 41) as (λ _. e x y ≡ f x y) [
  | inr far ↦ (let none = zero_from e p far in let other = zero_from f q far in omega (arith, none, other))
  | inl low ↦ elim (cases_lt y 41) as (λ _. e x y ≡ f x y) [
    | inr far ↦ (let none = zero_to e p far in let other = zero_to f q far in omega (arith, none, other))
    | inl small ↦ sym (edge_by e x y 41 41 low small) ∙ ap (count_in x y) same ∙ edge_by f x y 41 41 low small
  ]
]
  where
    zero_from : (e : Edges) → AreCounts e → 41 ≤ x → e x y ≡ 0
    zero_from e p far = elim (cases_lt 0 (e x y)) as (λ _. e x y ≡ 0) [ inl some ↦ absurd (let at = (p.from x y some).1 in omega (arith, at, far)) | inr none ↦ omega (arith, none) ]

    zero_to : (e : Edges) → AreCounts e → 41 ≤ y → e x y ≡ 0
    zero_to e p far = elim (cases_lt 0 (e x y)) as (λ _. e x y ≡ 0) [ inl some ↦ absurd (let at = (p.to x y some).1 in omega (arith, at, far)) | inr none ↦ omega (arith, none) ]

pub same_edges : (e f : Edges) → AreCounts e → AreCounts f → counted_edges e ≡ counted_edges f → e ≡ f
same_edges e f p q same = λ i x y. same_at e f x y p q same i

-- HOW MANY COUNT

counted_few : (edges : Edges) (from to : ℕ) (b : Bool) → length {A = Counted} (if b then [] else record { from = from; to = to; count = edges from to } ∷ []) ≤ 1
counted_few edges from to true = omega arith
counted_few edges from to false = omega arith

counted_none : (edges : Edges) (from to : ℕ) (b : Bool) → (edges from to == 0) ≡ b → edges from to ≡ 0 → length {A = Counted} (if b then [] else record { from = from; to = to; count = edges from to } ∷ []) ≡ 0
counted_none edges from to true e none = refl
counted_none edges from to false e none = absurd (false≢true (sym e ∙ eq-eqb (edges from to) 0 none))

pub length_next : (f : ℕ → List Counted) (n : ℕ) → length (flat_map f (upto (suc n))) ≡ length (flat_map f (upto n)) + length (f n)
length_next f n = ap (λ (es : List Counted). length es) (next_number f n) ∙ length-append (flat_map f (upto n)) (f n)

-- where 0 gives none and each other number at most so many
pub few_over : (f : ℕ → List Counted) (most : ℕ) → length (f 0) ≡ 0 → ((k : ℕ) → length (f k) ≤ most) → (n : ℕ) → length (flat_map f (upto (suc n))) ≤ n * most
few_over f most none few zero = let next = length_next f 0 in omega (arith, next, none)
few_over f most none few (suc n) =
    let so_far = few_over f most none few n in
    let next = length_next f (suc n) in
    let here = few (suc n) in
    let grown : suc n * most ≡ n * most + most = omega arith in
    omega (arith, so_far, next, here, grown)

no_edge : (e : Edges) (x y : ℕ) → AreCounts e → (x ≡ 0) ⊎ (y ≡ 0) → e x y ≡ 0
no_edge e x y p low = elim (cases_lt 0 (e x y)) as (λ _. e x y ≡ 0) [ inl some ↦ absurd (go low (p.from x y some).0 (p.to x y some).0) | inr none ↦ omega (arith, none) ]
  where
    go : (x ≡ 0) ⊎ (y ≡ 0) → 1 ≤ x → 1 ≤ y → ⊥
    go (inl none) a b = omega (arith, none, a)
    go (inr none) a b = omega (arith, none, b)

none_over : (f : ℕ → List Counted) → ((k : ℕ) → length (f k) ≡ 0) → (n : ℕ) → length (flat_map f (upto n)) ≡ 0
none_over f none zero = refl
none_over f none (suc n) = let next = length_next f n in let here = none n in let so_far = none_over f none n in omega (arith, next, here, so_far)

pub row_none : (e : Edges) → AreCounts e → (n : ℕ) → length (flat_map (counted e 0) (upto n)) ≡ 0
row_none e p n = none_over (counted e 0) (λ to. counted_none e 0 to (e 0 to == 0) refl (no_edge e 0 to p (inl refl))) n

row_few : (e : Edges) (from n : ℕ) → AreCounts e → length (flat_map (counted e from) (upto (suc n))) ≤ n * 1
row_few e from n p = few_over (counted e from) 1 (counted_none e from 0 (e from 0 == 0) refl (no_edge e from 0 p (inr refl))) (λ to. counted_few e from to (e from to == 0)) n

few_by : (e : Edges) (m n : ℕ) → AreCounts e → length (flat_map (λ from. flat_map (counted e from) (upto (suc n))) (upto (suc m))) ≤ m * (n * 1)
few_by e m n p = few_over (λ from. flat_map (counted e from) (upto (suc n))) (n * 1) (row_none e p (suc n)) (λ from. row_few e from n p) m

pub few_edges : (e : Edges) → AreCounts e → length (counted_edges e) ≤ 1600
few_edges e p = few_by e 40 40 p

-- TOLD

edge : (e f : Counted) → Any e → Any f → Tells (edge_bytes e) (edge_bytes f) (e ≡ f)
edge e f p q =
    when (byte_then e.from f.from (λ _. byte_then e.to f.to (λ _. byte e.count f.count))) (λ t. λ i. record { from = t.0 i; to = t.1.0 i; count = t.1.1 i })

edge_list : (es fs : List Counted) → length es < 256 ^ 2 → length fs < 256 ^ 2 → Tells (edges_bytes es) (edges_bytes fs) (es ≡ fs)
edge_list es fs p q =
    when (and_then (number 2 (length es) (length fs) p q) (λ len. items edge_bytes Any edge es fs (all_any es) (all_any fs) len)) (λ (len, same). same)

pub edges : (e f : Edges) → AreCounts e → AreCounts f → Tells (edges_bytes (counted_edges e)) (edges_bytes (counted_edges f)) (e ≡ f)
edges e f p q =
    when
    (edge_list (counted_edges e) (counted_edges f) (let few = few_edges e p in omega (arith, few)) (let few = few_edges f q in omega (arith, few)))
    (same_edges e f p q)
