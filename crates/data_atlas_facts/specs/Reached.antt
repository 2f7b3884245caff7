-- Counted edges in rows, and which containers are reached over them.
use Rattle.std.specs.Prelude.{◌&&◌, ◌==◌, if◌then◌else◌, ◌↔◌, IsTrue, ℕ, ◌≤◌, List, [], slice_index, slice_index_or}
use Rattle.model_circles.specs.base_types.Edges.{Edges, ClosesCircle, leads}
use Rattle.model_circles.specs.Containers.{IsAmongContainers}

-- the count at a row and a column, 0 where there is none
abbrev pub edges_in : List (List ℕ) → Edges
edges_in rows c d = slice_index (slice_index_or rows c []) d

-- the same edges but for one count
abbrev pub with_edge : Edges → ℕ → ℕ → ℕ → Edges
with_edge edges c d n x y = if x == c && y == d then n else edges x y

-- a search of at least 40 steps from d to c tells whether an edge from c to d would close a circle
abbrev pub FindsCircles : Type 0
FindsCircles = (edges : Edges) (c d n : ℕ) → IsAmongContainers edges → 40 ≤ n → IsTrue (leads n edges d c) ↔ ClosesCircle edges c d
