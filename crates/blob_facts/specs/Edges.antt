-- The edges of an atlas as fields: which bytes spell which counts.
use Rattle.std.specs.Prelude.{◌≡◌, ℕ, ◌+◌, ◌-◌, ◌*◌, ◌/◌, ◌%◌, ◌≤◌, ◌==◌, if◌then◌else◌, List}
use Rattle.act_atlas_laws.specs.base_types.Edges.{Edges}
use Rattle.blob_grammar.specs.Forms.{AreCounts}
use Rattle.blob_grammar.specs.Spelling.{Counted, counted_edges, edge_bytes, edges_bytes}

-- PAIRS of containers, numbered from 0 in the order of edges
abbrev pub pair_of : ℕ → ℕ → ℕ
pair_of from to = 40 * (from - 1) + (to - 1)

-- the first of a pair, and the second
abbrev pub row_of : ℕ → ℕ
row_of pair = pair / 40 + 1

abbrev pub column_of : ℕ → ℕ
column_of pair = pair % 40 + 1

-- the least and the greatest second one, where the first is this one and the pair isn't before that pair, or not behind it
abbrev pub least_column : ℕ → ℕ → ℕ
least_column pair from = if from == row_of pair then column_of pair else 1

abbrev pub most_column : ℕ → ℕ → ℕ
most_column pair from = if from == row_of pair then column_of pair else 40

-- ONE EDGE that counts, of a pair that is neither before the one nor behind the other
pub record IsEdgeIn (least most : ℕ) (e : Counted) (bytes : List ℕ) : Type 0 where
  pub from : (1 ≤ e.from) × (e.from ≤ 40)
  pub to : (1 ≤ e.to) × (e.to ≤ 40)
  pub count : (1 ≤ e.count) × (e.count ≤ 16)
  pub low : least ≤ pair_of e.from e.to
  pub high : pair_of e.from e.to ≤ most
  pub is : bytes ≡ edge_bytes e

-- ALL EDGES
pub record AreEdgesSpelled (edges : Edges) (bytes : List ℕ) : Type 0 where
  pub good : AreCounts edges
  pub is : bytes ≡ edges_bytes (counted_edges edges)
