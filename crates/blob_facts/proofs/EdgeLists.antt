-- Edges, of which each leaves pairs for those behind it.
use Rattle.std.proofs.Common.{◌≡◌, ◌≤◌, ℕ, zero, suc, ◌+◌, ◌-◌, List, [], ◌∷◌, ◌++◌, length, refl, sym, ap, ◌∙◌, arith}
use Rattle.std.specs.List.{flat_map}
use Rattle.byteorder.specs.Endian.{little_bytes}
use Rattle.act_atlas_laws.specs.base_types.Edges.{Edges}
use Rattle.blob_grammar.specs.Forms.{AreCounts}
use Rattle.blob_grammar.specs.Spelling.{Counted, counted_edges, edge_bytes, edges_bytes}
use Rattle.blob_facts.specs.Fields.{IsFound, IsNumberIn, IsRefused, Items, Spells, Then}
use Rattle.blob_facts.proofs.Numbers.{tells}
use Rattle.blob_facts.proofs.Sequences.{chain, joined, refused_as, refused_here, refused_later}
use Rattle.blob_facts.specs.Edges.{AreEdgesSpelled, IsEdgeIn, column_of, pair_of, row_of}
use Rattle.blob_facts.proofs.EdgeFields.{split}
use Rattle.blob_facts.proofs.EdgeOrder.{Ascend, edges_ascend, edges_made}

-- with so many behind it
abbrev pub Item : ℕ → ℕ → Counted → List ℕ → Type 0
Item least n = IsEdgeIn least (1599 - n)

abbrev pub pair_after : ℕ → Counted → ℕ
pair_after least e = pair_of e.from e.to + 1

abbrev pub EdgeItems : ℕ → ℕ → List Counted → List ℕ → Type 0
EdgeItems = Items Item pair_after

-- THERE ARE SOME, where there is room
abbrev edge_at : ℕ → Counted
edge_at pair = record { from = row_of pair; to = column_of pair; count = 1 }

pair_back : (pair : ℕ) → pair_of (row_of pair) (column_of pair) ≡ pair
pair_back pair = let s = (split pair).0 in omega (arith, s)

edge_in : (pair n : ℕ) → pair + suc n ≤ 1600 → Item pair n (edge_at pair) (edge_bytes (edge_at pair))
edge_in pair n room =
    let s = (split pair).0 in
    let small = (split pair).1 in
    let back = pair_back pair in
    record { from = (omega arith, omega (arith, s, room)); to = (omega arith, omega (arith, small)); count = (omega arith, omega arith); low = omega (arith, back); high = omega (arith, back, room); is = refl }

pub some_edges : (n least : ℕ) → least + n ≤ 1600 → (b : List ℕ) × Spells (EdgeItems n least) b
some_edges zero least room = ([], record { value = []; spelled = (refl, refl) })
some_edges (suc n) least room =
    let back = pair_back least in
    let more = some_edges n (pair_of (row_of least) (column_of least) + 1) (omega (arith, back, room)) in
    (edge_bytes (edge_at least) ++ more.0, record { value = edge_at least ∷ more.1.value; spelled = (edge_bytes (edge_at least), more.0, edge_in least n room, more.1.spelled, refl) })

pub room_behind : (n least : ℕ) (e : Counted) (a : List ℕ) → n ≤ 1599 → Item least n e a → (b : List ℕ) × Spells (EdgeItems n (pair_after least e)) b
room_behind n least e a few f = some_edges n (pair_of e.from e.to + 1) (let h = f.high in omega (arith, h, few))

-- WHAT SO MANY from a pair on keep
pub record AreGood (n least : ℕ) (es : List Counted) (y : List ℕ) : Type 0 where
  pub len : length es ≡ n
  pub ascend : Ascend least 1600 es
  pub is : y ≡ flat_map edge_bytes es

pub are_good : (n least : ℕ) (es : List Counted) (y : List ℕ) → least ≤ 1600 → EdgeItems n least es y → AreGood n least es y
are_good zero least [] y low h = record { len = refl; ascend = low; is = h.1 }
are_good zero least (e ∷ es) y low h = absurd (let d = ap length h.0 in omega (arith, d))
are_good (suc n) least [] y low h = absurd h
are_good (suc n) least (e ∷ es) y low h =
    let f = h.2 in
    let high = f.high in
    let more = are_good n (pair_of e.from e.to + 1) es h.1 (omega (arith, high)) h.3 in
    let len = more.len in
    record {
      len = omega (arith, len);
      ascend = (record { from = f.from; to = f.to; count = f.count }, f.low, omega (arith, high), more.ascend);
      is = joined h.4 f.is more.is;
    }

room_for : (es : List Counted) (low : ℕ) → Ascend low 1600 es → low + length es ≤ 1600
room_for [] low a = omega (arith, a)
room_for (e ∷ es) low a =
    let more = room_for es (pair_of e.from e.to + 1) a.3 in
    let l = a.1 in
    omega (arith, more, l)

as_items : (es : List Counted) (low : ℕ) → Ascend low 1600 es → EdgeItems (length es) low es (flat_map edge_bytes es)
as_items [] low a = (refl, refl)
as_items (e ∷ es) low a =
    let g = a.0 in
    let room = room_for es (pair_of e.from e.to + 1) a.3 in (
      edge_bytes e,
      flat_map edge_bytes es,
      record { from = g.from; to = g.to; count = g.count; low = a.1; high = omega (arith, room); is = refl },
      as_items es (pair_of e.from e.to + 1) a.3,
      refl,
    )

-- ALL WITH THEIR NUMBER
abbrev Numbered : List ℕ → Type 0
Numbered = Then (IsNumberIn 2 0 1600) (λ n. Spells (EdgeItems n 0))

of_numbered : (y : List ℕ) → Numbered y → Spells AreEdgesSpelled y
of_numbered y l =
    let es = l.followed.value in
    let g = are_good l.value 0 es l.behind (omega arith) l.followed.spelled in
    let m = edges_made es g.ascend in
    record {
      value = m.0;
      spelled = record {
        good = m.1;
        is = joined l.is (l.spelled.is ∙ ap (little_bytes 2) (sym g.len)) g.is ∙ ap edges_bytes (sym m.2);
      };
    }

to_numbered : (y : List ℕ) → Spells AreEdgesSpelled y → Numbered y
to_numbered y s =
    let es = counted_edges s.value in
    let a = edges_ascend s.value s.spelled.good in
    let few = room_for es 0 a in
    record {
      value = length es;
      front = little_bytes 2 (length es);
      behind = flat_map edge_bytes es;
      spelled = record { low = omega arith; high = omega (arith, few); is = refl };
      followed = record { value = es; spelled = as_items es 0 a };
      is = s.spelled.is;
    }

module _ (bytes rest behind : List ℕ) where
  pub number_refused : IsRefused (Spells (IsNumberIn 2 0 1600)) bytes behind → IsRefused (Spells AreEdgesSpelled) bytes behind
  number_refused r = refused_as of_numbered to_numbered (refused_here (λ n a f. some_edges n 0 (let h = f.high in omega (arith, h))) r)

  pub items_refused : (n : ℕ) → IsFound (IsNumberIn 2 0 1600) bytes n rest → IsRefused (Spells (EdgeItems n 0)) rest behind → IsRefused (Spells AreEdgesSpelled) bytes behind
  items_refused n f r = refused_as of_numbered to_numbered (refused_later (tells 2 0 1600 (omega arith)) f r)

  pub edges_found : (n : ℕ) (es : Edges) → AreCounts es → IsFound (IsNumberIn 2 0 1600) bytes n rest → IsFound (EdgeItems n 0) rest (counted_edges es) behind → IsFound AreEdgesSpelled bytes es behind
  edges_found n es good f g =
      let a = are_good n 0 (counted_edges es) g.front (omega arith) g.spelled in
      record {
        front = edges_bytes (counted_edges es);
        spelled = record { good = good; is = refl };
        is = chain (flat_map edge_bytes (counted_edges es)) behind f.is (f.spelled.is ∙ ap (little_bytes 2) (sym a.len)) (joined g.is a.is refl);
      }

pub some_edges_spelled : (b : List ℕ) × Spells AreEdgesSpelled b
some_edges_spelled = (
  little_bytes 2 0,
  of_numbered (little_bytes 2 0)
      (record { value = 0; front = little_bytes 2 0; behind = []; spelled = record { low = omega arith; high = omega arith; is = refl }; followed = record { value = []; spelled = (refl, refl) }; is = refl }),
)
