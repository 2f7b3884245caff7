-- An edge, field by field: which containers may stand first and second, so that the pair is within bounds.
use Rattle.std.proofs.Common.{◌≡◌, ◌<◌, ◌≤◌, ℕ, ◌+◌, ◌*◌, ◌/◌, ◌%◌, ◌==◌, if◌then◌else◌, true, false, List, [], ◌∷◌, ◌++◌, ◌⊎◌, inl, inr, refl, sym, ap, ◌∙◌, arith}
use Rattle.std.proofs.Math.Nat.{mod-lt}
use Rattle.std.proofs.lemmas.Nat.{div-add-mod'}
use Rattle.std.proofs.lemmas.Bool.Decides.{eqb_tells}
use Rattle.std.specs.Prelude.{drop, slice_index}
use Rattle.blob_grammar.specs.Spelling.{edge_bytes}
use Rattle.blob_facts.specs.Fields.{IsByteIn, IsFound, IsRefused, Spells, Then}
use Rattle.blob_facts.proofs.Bytes.{byte_tells, some_byte}
use Rattle.blob_facts.proofs.Sequences.{TellsApart, chain, joined, refused_as, refused_here, refused_later}
use Rattle.blob_facts.specs.Edges.{IsEdgeIn, column_of, least_column, most_column, pair_of, row_of}

-- THE BOUNDS
pub split : (pair : ℕ) → (pair / 40 * 40 + pair % 40 ≡ pair) × (pair % 40 < 40)
split pair = (div-add-mod' pair 40, mod-lt pair (omega arith))

column_cases : (pair from other : ℕ) → ((from ≡ row_of pair) × ((if from == row_of pair then column_of pair else other) ≡ column_of pair)) ⊎ ((from ≡ row_of pair → ⊥) × ((if from == row_of pair then column_of pair else other) ≡ other))
column_cases pair from other = by (eqb_tells from (row_of pair))
  where
    by : (((from == row_of pair) ≡ true) × (from ≡ row_of pair)) ⊎ (((from == row_of pair) ≡ false) × (from ≡ row_of pair → ⊥))
        → ((from ≡ row_of pair) × ((if from == row_of pair then column_of pair else other) ≡ column_of pair)) ⊎ ((from ≡ row_of pair → ⊥) × ((if from == row_of pair then column_of pair else other) ≡ other))
    by (inl t) = inl (t.1, ap (λ b. if b then column_of pair else other) t.0)
    by (inr t) = inr (t.1, ap (λ b. if b then column_of pair else other) t.0)

abbrev Cases : ℕ → ℕ → ℕ → ℕ → Type 0
Cases pair from other n = ((from ≡ row_of pair) × (n ≡ column_of pair)) ⊎ ((from ≡ row_of pair → ⊥) × (n ≡ other))

module _ (least most : ℕ) (some : least ≤ most) (size : most < 1600) where
  low_split : least / 40 * 40 + least % 40 ≡ least
  low_split = (split least).0

  high_split : most / 40 * 40 + most % 40 ≡ most
  high_split = (split most).0

  pub columns : (from : ℕ) → row_of least ≤ from → from ≤ row_of most → least_column least from ≤ most_column most from
  columns from low high = by (column_cases least from 1) (column_cases most from 40)
    where
      by : Cases least from 1 (least_column least from) → Cases most from 40 (most_column most from) → least_column least from ≤ most_column most from
      by (inl t) (inl u) =
          let a = low_split in
          let b = high_split in
          let m = t.0 in
          let n = u.0 in
          let e = t.1 in
          let f = u.1 in
          omega (arith, a, b, m, n, e, f, some)
      by (inl t) (inr u) = let e = t.1 in let f = u.1 in let c = (split least).1 in omega (arith, e, f, c)
      by (inr t) (inl u) = let e = t.1 in let f = u.1 in omega (arith, e, f)
      by (inr t) (inr u) = let e = t.1 in let f = u.1 in omega (arith, e, f)

  -- bytes within the bounds are a pair within them
  pub pair_low : (from to : ℕ) → row_of least ≤ from → least_column least from ≤ to → (1 ≤ to) × (least ≤ pair_of from to)
  pair_low from to low first = by (column_cases least from 1)
    where
      by : Cases least from 1 (least_column least from) → (1 ≤ to) × (least ≤ pair_of from to)
      by (inl t) = let a = low_split in let m = t.0 in let e = t.1 in (omega (arith, e, first), omega (arith, a, m, e, first))
      by (inr t) = let a = low_split in let c = (split least).1 in let m = t.0 in let e = t.1 in (omega (arith, e, first), omega (arith, a, c, m, e, first, low))

  pub pair_high : (from to : ℕ) → 1 ≤ from → 1 ≤ to → from ≤ row_of most → to ≤ most_column most from → (from ≤ 40) × (to ≤ 40) × (pair_of from to ≤ most)
  pair_high from to some_from some_to high last = by (column_cases most from 40)
    where
      by : Cases most from 40 (most_column most from) → (from ≤ 40) × (to ≤ 40) × (pair_of from to ≤ most)
      by (inl t) = let b = high_split in let c = (split most).1 in let m = t.0 in let e = t.1 in (omega (arith, b, m, size), omega (arith, c, e, last), omega (arith, b, m, e, last, some_to))
      by (inr t) = let b = high_split in let m = t.0 in let e = t.1 in (omega (arith, b, high, size), omega (arith, e, last), omega (arith, b, m, e, last, high, some_from, some_to))

  -- and the other way round
  pub from_low : (from to : ℕ) → 1 ≤ from → 1 ≤ to → to ≤ 40 → least ≤ pair_of from to → (row_of least ≤ from) × (least_column least from ≤ to)
  from_low from to some_from some_to few low = by (column_cases least from 1)
    where
      by : Cases least from 1 (least_column least from) → (row_of least ≤ from) × (least_column least from ≤ to)
      by (inl t) = let a = low_split in let m = t.0 in let e = t.1 in (omega (arith, m), omega (arith, a, m, e, low, some_to))
      by (inr t) = let a = low_split in let e = t.1 in (omega (arith, a, low, some_from, some_to, few), omega (arith, e, some_to))

  pub from_high : (from to : ℕ) → 1 ≤ from → 1 ≤ to → to ≤ 40 → pair_of from to ≤ most → (from ≤ row_of most) × (to ≤ most_column most from)
  from_high from to some_from some_to few high = by (column_cases most from 40)
    where
      by : Cases most from 40 (most_column most from) → (from ≤ row_of most) × (to ≤ most_column most from)
      by (inl t) = let b = high_split in let m = t.0 in let e = t.1 in (omega (arith, m), omega (arith, b, m, e, high, some_from, some_to))
      by (inr t) = let b = high_split in let c = (split most).1 in let e = t.1 in (omega (arith, b, c, high, some_from, some_to), omega (arith, e, few))

  -- THE FIELDS
  abbrev BehindFrom : ℕ → List ℕ → Type 0
  BehindFrom from = Then (IsByteIn (least_column least from) (most_column most from)) (λ _. Spells (IsByteIn 1 16))

  abbrev EdgeFields : List ℕ → Type 0
  EdgeFields = Then (IsByteIn (row_of least) (row_of most)) BehindFrom

  behind_from : (from : ℕ) → row_of least ≤ from → from ≤ row_of most → (b : List ℕ) × BehindFrom from b
  behind_from from low high = (
    least_column least from ∷ 1 ∷ [],
    record {
      value = least_column least from;
      front = least_column least from ∷ [];
      behind = 1 ∷ [];
      spelled = record { low = omega arith; high = columns from low high; is = refl };
      followed = record { value = 1; spelled = record { low = omega arith; high = omega arith; is = refl } };
      is = refl;
    },
  )

  good_edge : (from to count : ℕ) (a b c y : List ℕ) → IsByteIn (row_of least) (row_of most) from a → IsByteIn (least_column least from) (most_column most from) to b → IsByteIn 1 16 count c
      → y ≡ from ∷ to ∷ count ∷ [] → IsEdgeIn least most (record { from = from; to = to; count = count }) y
  good_edge from to count a b c y f g h is =
      let first = f.low in
      let some_from : 1 ≤ from = omega (arith, first) in
      let low = pair_low from to f.low g.low in
      let high = pair_high from to some_from low.0 f.high g.high in
      record { from = (some_from, high.0); to = (low.0, high.1); count = (h.low, h.high); low = low.1; high = high.2; is = is }

  edge_of : (y : List ℕ) → EdgeFields y → Spells (IsEdgeIn least most) y
  edge_of y f =
      let g = f.followed in
      let h = g.followed in
      record {
        value = record { from = f.value; to = g.value; count = h.value };
        spelled = good_edge f.value g.value h.value f.front g.front g.behind y f.spelled g.spelled h.spelled (joined f.is f.spelled.is (joined g.is g.spelled.is h.spelled.is));
      }

  fields_of : (y : List ℕ) → Spells (IsEdgeIn least most) y → EdgeFields y
  fields_of y s =
      let e = s.value in
      let f = s.spelled in
      let low = from_low e.from e.to f.from.0 f.to.0 f.to.1 f.low in
      let high = from_high e.from e.to f.from.0 f.to.0 f.to.1 f.high in
      record {
        value = e.from;
        front = e.from ∷ [];
        behind = e.to ∷ e.count ∷ [];
        spelled = record { low = low.0; high = high.0; is = refl };
        followed = record {
          value = e.to;
          front = e.to ∷ [];
          behind = e.count ∷ [];
          spelled = record { low = low.1; high = high.1; is = refl };
          followed = record { value = e.count; spelled = record { low = f.count.0; high = f.count.1; is = refl } };
          is = refl;
        };
        is = f.is;
      }

  module _ (bytes b1 b2 behind : List ℕ) (from to : ℕ) where
    pub from_refused : IsRefused (Spells (IsByteIn (row_of least) (row_of most))) bytes behind → IsRefused (Spells (IsEdgeIn least most)) bytes behind
    from_refused r = refused_as edge_of fields_of (refused_here (λ v a f. behind_from v f.low f.high) r)

    pub to_refused : IsFound (IsByteIn (row_of least) (row_of most)) bytes from b1 → IsRefused (Spells (IsByteIn (least_column least from) (most_column most from))) b1 behind
        → IsRefused (Spells (IsEdgeIn least most)) bytes behind
    to_refused f r = refused_as edge_of fields_of (refused_later (byte_tells (row_of least) (row_of most)) f (refused_here (λ v a g. some_byte 1 16 (omega arith)) r))

    pub count_refused : IsFound (IsByteIn (row_of least) (row_of most)) bytes from b1 → IsFound (IsByteIn (least_column least from) (most_column most from)) b1 to b2
        → IsRefused (Spells (IsByteIn 1 16)) b2 behind → IsRefused (Spells (IsEdgeIn least most)) bytes behind
    count_refused f g r =
        refused_as edge_of fields_of (refused_later (byte_tells (row_of least) (row_of most)) f (refused_later (byte_tells (least_column least from) (most_column most from)) g r))

    pub edge_found : (count : ℕ) → IsFound (IsByteIn (row_of least) (row_of most)) bytes from b1 → IsFound (IsByteIn (least_column least from) (most_column most from)) b1 to b2
        → IsFound (IsByteIn 1 16) b2 count behind → IsFound (IsEdgeIn least most) bytes (record { from = from; to = to; count = count }) behind
    edge_found count f g h = record {
      front = from ∷ to ∷ count ∷ [];
      spelled = good_edge from to count f.front g.front h.front (from ∷ to ∷ count ∷ []) f.spelled g.spelled h.spelled refl;
      is = chain (to ∷ count ∷ []) behind f.is f.spelled.is (chain (count ∷ []) behind g.is g.spelled.is (joined h.is h.spelled.is refl));
    }

pub edge_tells : (least most : ℕ) → TellsApart (IsEdgeIn least most)
edge_tells least most = record {
  told = λ v w a b x y f g same.
      let e : edge_bytes v ++ x ≡ edge_bytes w ++ y = ap (λ (l : List ℕ). l ++ x) (sym f.is) ∙ same ∙ ap (λ (l : List ℕ). l ++ y) g.is in
      (λ i. record { from = slice_index (e i) 0; to = slice_index (e i) 1; count = slice_index (e i) 2 }, λ i. drop 3 (e i));
}
