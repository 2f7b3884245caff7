-- Rows of edges, as they are gone through.
use Rattle.std.proofs.Common.{◌≡◌, ◌<◌, ◌≤◌, ℕ, ◌+◌, ◌==◌, Bool, true, false, if◌then◌else◌, List, [], ◌∷◌, ◌++◌, refl, sym, ap, ◌∙◌, add-one, append_assoc, arith}
use Rattle.std.proofs.lemmas.Grind.{flat_map-append}
use Rattle.std.proofs.lemmas.List.{append-nil}
use borrow.Author.Tests.{ne_eqb}
use Rattle.std.proofs.lemmas.Bool.{eq-eqb}
use Rattle.std.specs.List.{flat_map}
use Rattle.act_atlas_laws.specs.base_types.Edges.{Edges, upto}
use Rattle.blob_grammar.specs.Spelling.{Counted, counted, counted_edges, edge_bytes}
use Rattle.blob_facts.specs.Pieces.{row_edges, rows_edges}

-- one number more
next_number : (f : ℕ → List Counted) (n : ℕ) → flat_map f (upto (n + 1)) ≡ flat_map f (upto n) ++ f n
next_number f n =
    ap (λ k. flat_map f (upto k)) (add-one n) ∙ flat_map-append f (upto n) (n ∷ []) ∙ ap (λ (es : List Counted). flat_map f (upto n) ++ es) (append-nil (f n))

-- an edge, by whether it counts
counted_by : (edges : Edges) (from to : ℕ) (b : Bool) → (edges from to == 0) ≡ b
    → counted edges from to ≡ (if b then [] else record { from = from; to = to; count = edges from to } ∷ [])
counted_by edges from to b e = ap (λ t. if t then [] else record { from = from; to = to; count = edges from to } ∷ []) e

-- one number more in a row, where an edge leads to it, and where none does
pub row_some : (edges : Edges) (from to count : ℕ) → count ≡ edges from to → 0 < count
    → row_edges edges from (to + 1) ≡ row_edges edges from to ++ record { from = from; to = to; count = count } ∷ []
unfolding row_edges
row_some edges from to count is some =
    let not_zero : (edges from to == 0) ≡ false = ne_eqb (edges from to) 0 (λ zero_is. omega (arith, is, some, zero_is)) in
    next_number (counted edges from) to
    ∙ ap (λ es. row_edges edges from to ++ es) (counted_by edges from to false not_zero)
    ∙ ap (λ k. row_edges edges from to ++ record { from = from; to = to; count = k } ∷ []) (sym is)

pub row_none : (edges : Edges) (from to count : ℕ) → count ≡ edges from to → count ≤ 0 → row_edges edges from (to + 1) ≡ row_edges edges from to
unfolding row_edges
row_none edges from to count is none =
    let zero_is : (edges from to == 0) ≡ true = eq-eqb (edges from to) 0 (omega (arith, is, none)) in
    next_number (counted edges from) to
    ∙ ap (λ es. row_edges edges from to ++ es) (counted_by edges from to true zero_is)
    ∙ append-nil (row_edges edges from to)

-- no number yet
pub row_start : (edges : Edges) (from : ℕ) → row_edges edges from 0 ≡ []
unfolding row_edges
row_start edges from = refl

pub rows_start : (edges : Edges) (n : ℕ) → rows_edges edges 0 n ≡ []
unfolding rows_edges
rows_start edges n = refl

-- one row more
pub rows_next : (edges : Edges) (m n : ℕ) → rows_edges edges (m + 1) n ≡ rows_edges edges m n ++ row_edges edges m n
unfolding row_edges rows_edges
rows_next edges m n = next_number (λ from. flat_map (counted edges from) (upto n)) m

-- all rows
pub rows_all : (edges : Edges) → rows_edges edges 41 41 ≡ counted_edges edges
unfolding rows_edges
rows_all edges = refl

-- nothing of them is written
pub no_row : (edges : Edges) (from : ℕ) (blob : List ℕ) → blob ≡ blob ++ flat_map edge_bytes (row_edges edges from 0)
no_row edges from blob = sym (append-nil blob) ∙ ap (λ es. blob ++ flat_map edge_bytes es) (sym (row_start edges from))

pub no_rows : (edges : Edges) (n : ℕ) (blob : List ℕ) → blob ≡ blob ++ flat_map edge_bytes (rows_edges edges 0 n)
no_rows edges n blob = sym (append-nil blob) ∙ ap (λ es. blob ++ flat_map edge_bytes es) (sym (rows_start edges n))

-- more edges behind those that are written
pub edges_more : (es fs gs : List Counted) (old blob new : List ℕ) → gs ≡ es ++ fs → blob ≡ old ++ flat_map edge_bytes es → new ≡ blob ++ flat_map edge_bytes fs
    → new ≡ old ++ flat_map edge_bytes gs
edges_more es fs gs old blob new split so_far put =
    put ∙ ap (λ (l : List ℕ). l ++ flat_map edge_bytes fs) so_far ∙ append_assoc old (flat_map edge_bytes es) (flat_map edge_bytes fs)
    ∙ ap (λ (l : List ℕ). old ++ l) (sym (flat_map-append edge_bytes es fs)) ∙ ap (λ gs. old ++ flat_map edge_bytes gs) (sym split)
