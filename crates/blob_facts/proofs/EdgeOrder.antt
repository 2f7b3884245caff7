-- The edges that count, pair by pair: they ascend, and one behind all others is the last of them.
use Rattle.std.proofs.Common.{◌≡◌, ◌<◌, ◌≤◌, ◌⊎◌, inl, inr, ℕ, zero, suc, ◌+◌, ◌-◌, ◌*◌, ◌==◌, ◌&&◌, Bool, true, false, if◌then◌else◌, List, [], ◌∷◌, ◌++◌, refl, sym, ap, subst, ◌∙◌, arith, append_assoc}
use Rattle.std.proofs.lemmas.Bool.{cases_lt, false≢true, ne_eqb}
use Rattle.std.proofs.lemmas.Bool.Decides.{eqb_tells}
use Rattle.std.proofs.lemmas.List.{append-nil}
use Rattle.std.specs.List.{flat_map}
use Rattle.act_atlas_laws.specs.base_types.Edges.{Edges, upto}
use Rattle.act_atlas_laws.specs.data_atlas_facts.Reached.{with_edge}
use Rattle.blob_grammar.specs.Forms.{AreCounts}
use Rattle.blob_grammar.specs.Spelling.{Counted, counted, counted_edges}
use Rattle.blob_facts.specs.Edges.{pair_of}
use Rattle.blob_grammar.proofs.Edges.{next_number}

-- where two functions give the same, so they do over a range
same_over : (f g : ℕ → List Counted) → ((j : ℕ) → f j ≡ g j) → (n : ℕ) → flat_map f (upto n) ≡ flat_map g (upto n)
same_over f g same n = λ i. flat_map (λ j. same j i) (upto n)

none_over : (f : ℕ → List Counted) → ((j : ℕ) → f j ≡ []) → (n : ℕ) → flat_map f (upto n) ≡ []
none_over f none zero = refl
none_over f none (suc n) = next_number f n ∙ (λ i. none_over f none n i ++ none n i)

-- one number gives one more at its end, and those behind it give none
module _ (f g : ℕ → List Counted) (x : ℕ) (e : Counted) (others : (j : ℕ) → (j ≡ x → ⊥) → g j ≡ f j) (more : g x ≡ f x ++ e ∷ []) (last : (j : ℕ) → x < j → f j ≡ []) where
  before : (n : ℕ) → n ≤ x → flat_map g (upto n) ≡ flat_map f (upto n)
  before zero low = refl
  before (suc n) low =
      next_number g n ∙ (λ i. before n (omega (arith, low)) i ++ others n (λ e. omega (arith, low, e)) i) ∙ sym (next_number f n)

  step : (n : ℕ) → x < suc n → (x < n → flat_map g (upto n) ≡ flat_map f (upto n) ++ e ∷ []) → (x < n) ⊎ (n ≤ x) → flat_map g (upto (suc n)) ≡ flat_map f (upto (suc n)) ++ e ∷ []
  step n low so_far (inl earlier) =
      let none : f n ≡ [] = last n earlier in
      let same : g n ≡ f n = others n (λ d. omega (arith, earlier, d)) in
      next_number g n ∙ (λ i. so_far earlier i ++ (same ∙ none) i) ∙ append-nil (flat_map f (upto n) ++ e ∷ [])
      ∙ ap (λ (l : List Counted). l ++ e ∷ []) (sym (next_number f n ∙ (λ i. flat_map f (upto n) ++ none i) ∙ append-nil (flat_map f (upto n))))
  step n low so_far (inr here) =
      let is : n ≡ x = omega (arith, low, here) in
      let one : g n ≡ f n ++ e ∷ [] = subst (λ m. g m ≡ f m ++ e ∷ []) (sym is) more in
      next_number g n ∙ (λ i. before n here' i ++ one i) ∙ sym (append_assoc (flat_map f (upto n)) (f n) (e ∷ [])) ∙ ap (λ (l : List Counted). l ++ e ∷ []) (sym (next_number f n))
    where
      here' : n ≤ x
      here' = omega (arith, low, here)

  pub behind : (n : ℕ) → x < n → flat_map g (upto n) ≡ flat_map f (upto n) ++ e ∷ []
  behind zero low = absurd (omega (arith, low))
  behind (suc n) low = step n low (behind n) (cases_lt x n)

-- ONE EDGE
abbrev counted_at : ℕ → ℕ → ℕ → List Counted
counted_at from to count = if count == 0 then [] else record { from = from; to = to; count = count } ∷ []

none_at : (from to count : ℕ) → count ≡ 0 → counted_at from to count ≡ []
none_at from to count none = ap (counted_at from to) none

one_at : (from to count : ℕ) → 1 ≤ count → counted_at from to count ≡ record { from = from; to = to; count = count } ∷ []
one_at from to count some = ap (λ b. if b then [] else record { from = from; to = to; count = count } ∷ []) (ne_eqb count 0 (λ e. omega (arith, e, some)))

-- the edge alone is another
edge_same : (edges : Edges) (c d n x y : ℕ) → ((x ≡ c) × (y ≡ d) → ⊥) → with_edge edges c d n x y ≡ edges x y
edge_same edges c d n x y other = by (x == c) (y == d) (eqb_tells x c) (eqb_tells y d)
  where
    by : (a b : Bool) → ((a ≡ true) × (x ≡ c)) ⊎ ((a ≡ false) × (x ≡ c → ⊥)) → ((b ≡ true) × (y ≡ d)) ⊎ ((b ≡ false) × (y ≡ d → ⊥)) → (if a && b then n else edges x y) ≡ edges x y
    by false b p q = refl
    by true false p q = refl
    by true true (inl p) (inl q) = absurd (other (p.1, q.1))
    by true true (inr p) q = absurd (false≢true (sym p.0))
    by true true p (inr q) = absurd (false≢true (sym q.0))

edge_new : (edges : Edges) (c d n x y : ℕ) → x ≡ c → y ≡ d → with_edge edges c d n x y ≡ n
edge_new edges c d n x y p q = by (x == c) (y == d) (eqb_tells x c) (eqb_tells y d)
  where
    by : (a b : Bool) → ((a ≡ true) × (x ≡ c)) ⊎ ((a ≡ false) × (x ≡ c → ⊥)) → ((b ≡ true) × (y ≡ d)) ⊎ ((b ≡ false) × (y ≡ d → ⊥)) → (if a && b then n else edges x y) ≡ n
    by true true s t = refl
    by false b (inl s) t = absurd (false≢true s.0)
    by false b (inr s) t = absurd (s.1 p)
    by true false s (inl t) = absurd (false≢true t.0)
    by true false s (inr t) = absurd (t.1 q)

-- COUNTS ALL BEFORE A PAIR
pub record AreBefore (pair : ℕ) (edges : Edges) : Type 0 where
  pub counts : AreCounts edges
  pub before : (x y : ℕ) → 0 < edges x y → pair_of x y < pair

pub none_before : (edges : Edges) → ((x y : ℕ) → edges x y ≡ 0) → AreBefore 0 edges
none_before edges none = record {
  counts = record { most = λ x y. (let e = none x y in omega (arith, e)); from = λ x y some. absurd (let e = none x y in omega (arith, e, some)); to = λ x y some. absurd (let e = none x y in omega (arith, e, some)) };
  before = λ x y some. absurd (let e = none x y in omega (arith, e, some));
}

abbrev row : Edges → ℕ → List Counted
row edges from = flat_map (counted edges from) (upto 41)

pub none_counted : (edges : Edges) → ((x y : ℕ) → edges x y ≡ 0) → counted_edges edges ≡ []
none_counted edges none = none_over (row edges) (λ x. none_over (counted edges x) (λ y. none_at x y (edges x y) (none x y)) 41) 41

module _ (edges : Edges) (pair from to count : ℕ) (all : AreBefore pair edges) (some_from : 1 ≤ from) (few_from : from ≤ 40) (some_to : 1 ≤ to) (few_to : to ≤ 40)
    (some : 1 ≤ count) (few : count ≤ 16) (low : pair ≤ pair_of from to) where
  abbrev after : Edges
  after = with_edge edges from to count

  -- no edge counts of a pair that isn't before the pair
  none_from : (x y : ℕ) → pair ≤ pair_of x y → edges x y ≡ 0
  none_from x y far = by (cases_lt 0 (edges x y))
    where
      by : (0 < edges x y) ⊎ (edges x y ≤ 0) → edges x y ≡ 0
      by (inl one) = absurd (let b = all.before x y one in omega (arith, b, far))
      by (inr none) = omega (arith, none)

  in_row : flat_map (counted after from) (upto 41) ≡ row edges from ++ record { from = from; to = to; count = count } ∷ []
  in_row =
      behind (counted edges from) (counted after from) to (record { from = from; to = to; count = count })
      (λ j other. ap (counted_at from j) (edge_same edges from to count from j (λ d. other d.1)))
      (ap (counted_at from to) (edge_new edges from to count from to refl refl) ∙ one_at from to count some
      ∙ sym (ap (λ (l : List Counted). l ++ record { from = from; to = to; count = count } ∷ []) (none_at from to (edges from to) (none_from from to low))))
      (λ j far. none_at from j (edges from j) (none_from from j (omega (arith, low, far, some_to))))
      41 (omega (arith, few_to))

  pub added : counted_edges after ≡ counted_edges edges ++ record { from = from; to = to; count = count } ∷ []
  added =
      behind (row edges) (row after) from (record { from = from; to = to; count = count })
      (λ j other. same_over (counted after j) (counted edges j) (λ k. ap (counted_at j k) (edge_same edges from to count j k (λ d. other d.0))) 41)
      in_row
      (λ j far. none_over (counted edges j) (λ k. none_by j k far (cases_lt 0 (edges j k))) 41)
      41 (omega (arith, few_from))
    where
      none_by : (j k : ℕ) → from < j → (0 < edges j k) ⊎ (edges j k ≤ 0) → counted_at j k (edges j k) ≡ []
      none_by j k far (inl one) =
          let b = all.before j k one in
          let t = (all.counts.to j k one).0 in
          absurd (omega (arith, b, t, far, low, few_to, some_from, some_to))
      none_by j k far (inr none) = none_at j k (edges j k) (omega (arith, none))

  pub still_before : AreBefore (pair_of from to + 1) after
  still_before = record {
    counts = record {
      most = λ x y. (at x y (λ n. n ≤ 16) few (all.counts.most x y));
      from = λ x y. at' x y (λ n. 0 < n → (1 ≤ x) × (x ≤ 40)) (λ p q _. (omega (arith, p, some_from), omega (arith, p, few_from))) (all.counts.from x y);
      to = λ x y. at' x y (λ n. 0 < n → (1 ≤ y) × (y ≤ 40)) (λ p q _. (omega (arith, q, some_to), omega (arith, q, few_to))) (all.counts.to x y);
    };
    before = λ x y. at' x y (λ n. 0 < n → pair_of x y < pair_of from to + 1) (λ p q _. omega (arith, p, q)) (λ one. (let b = all.before x y one in omega (arith, b, low)));
  }
    where
      at' : (x y : ℕ) (P : ℕ → Type 0) → (x ≡ from → y ≡ to → P count) → P (edges x y) → P (after x y)
      at' x y P new old = by (eqb_tells x from) (eqb_tells y to)
        where
          by : (((x == from) ≡ true) × (x ≡ from)) ⊎ (((x == from) ≡ false) × (x ≡ from → ⊥)) → (((y == to) ≡ true) × (y ≡ to)) ⊎ (((y == to) ≡ false) × (y ≡ to → ⊥)) → P (after x y)
          by (inl p) (inl q) = subst P (sym (edge_new edges from to count x y p.1 q.1)) (new p.1 q.1)
          by (inr p) q = subst P (sym (edge_same edges from to count x y (λ d. p.1 d.0))) old
          by p (inr q) = subst P (sym (edge_same edges from to count x y (λ d. q.1 d.1))) old

      at : (x y : ℕ) (P : ℕ → Type 0) → P count → P (edges x y) → P (after x y)
      at x y P new old = at' x y P (λ p q. new) old

-- ASCENDING LISTS of edges, of pairs from the one up to the other
pub record IsCountedEdge (e : Counted) : Type 0 where
  pub from : (1 ≤ e.from) × (e.from ≤ 40)
  pub to : (1 ≤ e.to) × (e.to ≤ 40)
  pub count : (1 ≤ e.count) × (e.count ≤ 16)

abbrev pub Ascend : ℕ → ℕ → List Counted → Type 0
Ascend low high [] = low ≤ high
Ascend low high (e ∷ es) = IsCountedEdge e × (low ≤ pair_of e.from e.to) × (pair_of e.from e.to < high) × Ascend (pair_of e.from e.to + 1) high es

ascend_from : (low lower high : ℕ) (es : List Counted) → lower ≤ low → Ascend low high es → Ascend lower high es
ascend_from low lower high [] le a = omega (arith, le, a)
ascend_from low lower high (e ∷ es) le a = let l = a.1 in (a.0, omega (arith, le, l), a.2, a.3)

ascend_to : (low high higher : ℕ) (es : List Counted) → high ≤ higher → Ascend low high es → Ascend low higher es
ascend_to low high higher [] le a = omega (arith, le, a)
ascend_to low high higher (e ∷ es) le a = let h = a.2 in (a.0, a.1, omega (arith, le, h), ascend_to (pair_of e.from e.to + 1) high higher es le a.3)

ascend_ends : (low high : ℕ) (es : List Counted) → Ascend low high es → low ≤ high
ascend_ends low high [] a = a
ascend_ends low high (e ∷ es) a = let l = a.1 in let h = a.2 in omega (arith, l, h)

ascend_join : (low mid high : ℕ) (es fs : List Counted) → Ascend low mid es → Ascend mid high fs → Ascend low high (es ++ fs)
ascend_join low mid high [] fs a b = ascend_from mid low high fs a b
ascend_join low mid high (e ∷ es) fs a b =
    let h = a.2 in
    let m = ascend_ends mid high fs b in
    (a.0, a.1, omega (arith, h, m), ascend_join (pair_of e.from e.to + 1) mid high es fs a.3 b)

module _ (edges : Edges) (good : AreCounts edges) where
  -- one edge
  one_ascends : (from to : ℕ) → (0 < edges from to) ⊎ (edges from to ≤ 0) → Ascend (40 * (from - 1) + (to - 1)) (40 * (from - 1) + to) (counted_at from to (edges from to))
  one_ascends from to (inl one) =
      let f = good.from from to one in
      let t = good.to from to one in
      let some = t.0 in
      subst (Ascend (40 * (from - 1) + (to - 1)) (40 * (from - 1) + to)) (sym (one_at from to (edges from to) (omega (arith, one))))
      (record { from = f; to = t; count = (omega (arith, one), good.most from to) }, omega arith, omega (arith, some), omega (arith, some))
  one_ascends from to (inr none) =
      subst (Ascend (40 * (from - 1) + (to - 1)) (40 * (from - 1) + to)) (sym (none_at from to (edges from to) (omega (arith, none)))) (omega arith)

  row_ascends : (from n : ℕ) → Ascend (40 * (from - 1)) (40 * (from - 1) + (n - 1)) (flat_map (counted edges from) (upto n))
  row_ascends from zero = omega arith
  row_ascends from (suc n) =
      subst (Ascend (40 * (from - 1)) (40 * (from - 1) + (suc n - 1))) (sym (next_number (counted edges from) n))
      (ascend_join (40 * (from - 1)) (40 * (from - 1) + (n - 1)) (40 * (from - 1) + (suc n - 1)) (flat_map (counted edges from) (upto n)) (counted edges from n) (row_ascends from n)
      (ascend_to (40 * (from - 1) + (n - 1)) (40 * (from - 1) + n) (40 * (from - 1) + (suc n - 1)) (counted edges from n) (omega arith) (one_ascends from n (cases_lt 0 (edges from n)))))

  none_zero : (to : ℕ) → (0 < edges 0 to) ⊎ (edges 0 to ≤ 0) → counted_at 0 to (edges 0 to) ≡ []
  none_zero to (inl one) = absurd (let f = (good.from 0 to one).0 in omega (arith, f))
  none_zero to (inr none) = none_at 0 to (edges 0 to) (omega (arith, none))

  row_in : (from : ℕ) → Ascend (40 * (from - 1)) (40 * from) (row edges from)
  row_in zero = subst (Ascend (40 * (0 - 1)) (40 * 0)) (sym (none_over (counted edges 0) (λ to. none_zero to (cases_lt 0 (edges 0 to))) 41)) (omega arith)
  row_in (suc from) = ascend_to (40 * (suc from - 1)) (40 * (suc from - 1) + (41 - 1)) (40 * suc from) (row edges (suc from)) (omega arith) (row_ascends (suc from) 41)

  rows_ascend : (n : ℕ) → Ascend 0 (40 * (n - 1)) (flat_map (row edges) (upto n))
  rows_ascend zero = omega arith
  rows_ascend (suc n) =
      subst (Ascend 0 (40 * (suc n - 1))) (sym (next_number (row edges) n))
      (ascend_join 0 (40 * (n - 1)) (40 * (suc n - 1)) (flat_map (row edges) (upto n)) (row edges n) (rows_ascend n)
      (ascend_to (40 * (n - 1)) (40 * n) (40 * (suc n - 1)) (row edges n) (omega arith) (row_in n)))

  pub edges_ascend : Ascend 0 1600 (counted_edges edges)
  edges_ascend = rows_ascend 41

-- EDGES OF A LIST that ascends
pub made : (es : List Counted) (edges : Edges) (low : ℕ) → AreBefore low edges → Ascend low 1600 es → (after : Edges) × AreCounts after × (counted_edges after ≡ counted_edges edges ++ es)
made [] edges low all a = (edges, all.counts, sym (append-nil (counted_edges edges)))
made (e ∷ es) edges low all a =
    let g = a.0 in
    let more = made es (with_edge edges e.from e.to e.count) (pair_of e.from e.to + 1) (still_before edges low e.from e.to e.count all g.from.0 g.from.1 g.to.0 g.to.1 g.count.0 g.count.1 a.1) a.3 in (
      more.0,
      more.1,
      more.2 ∙ ap (λ (l : List Counted). l ++ es) (added edges low e.from e.to e.count all g.from.0 g.from.1 g.to.0 g.to.1 g.count.0 g.count.1 a.1) ∙ append_assoc (counted_edges edges) (e ∷ []) es,
    )

abbrev no_edges : Edges
no_edges x y = 0

pub edges_made : (es : List Counted) → Ascend 0 1600 es → (after : Edges) × AreCounts after × (counted_edges after ≡ es)
edges_made es a =
    let m = made es no_edges 0 (none_before no_edges (λ x y. refl)) a in
    (m.0, m.1, m.2 ∙ ap (λ (l : List Counted). l ++ es) (none_counted no_edges (λ x y. refl)))
