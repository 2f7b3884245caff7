-- A reader of edges, at each of them.
use Rattle.std.proofs.Common.{◌≡◌, ◌<◌, ◌≤◌, ℕ, suc, ◌+◌, ◌-◌, List, [], ◌∷◌, ◌++◌, sym, subst, arith}
use Rattle.act_atlas_laws.specs.base_types.Edges.{Edges}
use Rattle.act_atlas_laws.specs.data_atlas_facts.Reached.{with_edge}
use Rattle.blob_grammar.specs.Spelling.{Counted, counted_edges}
use Rattle.blob_facts.specs.Fields.{IsFound, IsRefused, Spells}
use Rattle.blob_facts.proofs.Items.{HasRead, all_read, none_yet, one_more, one_refused}
use Rattle.blob_facts.specs.Edges.{IsEdgeIn, pair_of}
use Rattle.blob_facts.proofs.EdgeFields.{edge_tells}
use Rattle.blob_facts.proofs.EdgeLists.{EdgeItems, Item, pair_after, room_behind}
use Rattle.blob_facts.proofs.EdgeOrder.{AreBefore, added, none_before, none_counted, still_before}

module _ (count : ℕ) (bytes : List ℕ) where
  abbrev pub Read : List Counted → ℕ → ℕ → List ℕ → Type 0
  Read = HasRead Item pair_after count 0 bytes

  abbrev pub SoFar : ℕ → ℕ → Edges → List ℕ → Type 0
  SoFar place least edges rest = AreBefore least edges × (least + (count - place) ≤ 1600) × Read (counted_edges edges) (count - place) least rest

  pub begun : (edges : Edges) → ((x y : ℕ) → edges x y ≡ 0) → count ≤ 1600 → SoFar 0 0 edges bytes
  begun edges none few = (
    none_before edges none,
    omega (arith, few),
    subst (λ (l : List Counted). Read l (count - 0) 0 bytes) (sym (none_counted edges none))
        (subst (λ n. Read [] n 0 bytes) (let e : count ≡ count - 0 = omega arith in e) (none_yet Item pair_after count 0 bytes)),
  )

  module _ (place least : ℕ) (edges : Edges) (rest behind : List ℕ) (few : count ≤ 1600) (more : place < count) (so_far : SoFar place least edges rest) where
    left_is : count - place ≡ suc (count - place - 1)
    left_is = omega (arith, more)

    still : Read (counted_edges edges) (suc (count - place - 1)) least rest
    still = subst (λ n. Read (counted_edges edges) n least rest) left_is so_far.2

    pub edge_refused : IsRefused (Spells (IsEdgeIn least (1599 - (count - place - 1)))) rest behind → IsRefused (Spells (EdgeItems count 0)) bytes behind
    edge_refused r =
        one_refused Item pair_after count 0 bytes (counted_edges edges) (count - place - 1) least rest behind
        (λ e a f. room_behind (count - place - 1) least e a (omega (arith, few, more)) f) still r

    pub edge_added : (e : Counted) (edges' : Edges) → IsFound (IsEdgeIn least (1599 - (count - place - 1))) rest e behind → edges' ≡ with_edge edges e.from e.to e.count
        → SoFar (place + 1) (pair_of e.from e.to + 1) edges' behind
    edge_added e edges' f is =
        let g = f.spelled in
        let high = g.high in
        let room = so_far.1 in
        subst (λ (es : Edges). SoFar (place + 1) (pair_of e.from e.to + 1) es behind) (sym is) (
          still_before edges least e.from e.to e.count so_far.0 g.from.0 g.from.1 g.to.0 g.to.1 g.count.0 g.count.1 g.low,
          omega (arith, high, room, more),
          subst (λ (l : List Counted). Read l (count - (place + 1)) (pair_of e.from e.to + 1) behind) (sym (added edges least e.from e.to e.count so_far.0 g.from.0 g.from.1 g.to.0 g.to.1 g.count.0 g.count.1 g.low))
              (subst (λ n. Read (counted_edges edges ++ e ∷ []) n (pair_of e.from e.to + 1) behind) (let d : count - place - 1 ≡ count - (place + 1) = omega arith in d)
              (one_more Item pair_after count 0 bytes (counted_edges edges) (count - place - 1) least rest e behind (edge_tells least (1599 - (count - place - 1))) still f)),
        )

  pub all_added : (place least : ℕ) (edges : Edges) (rest : List ℕ) → count ≤ place → SoFar place least edges rest → IsFound (EdgeItems count 0) bytes (counted_edges edges) rest
  all_added place least edges rest end so_far =
      all_read Item pair_after count 0 bytes (counted_edges edges) least rest (subst (λ n. Read (counted_edges edges) n least rest) (let e : count - place ≡ 0 = omega (arith, end) in e) so_far.2)
