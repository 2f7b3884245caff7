-- A tally of regions, and which edges it counts.
use Rattle.std.specs.Prelude.{◌≡◌, ℕ, ◌==◌, List, count_by, slice_index}
use Rattle.base_types.specs.Edges.{Edges}
use Rattle.base_types.specs.declared.capabilities.Region.{Region}

abbrev pub count_onto : List Region → ℕ → ℕ
count_onto regions y = count_by (λ (r : Region). r.target == y) regions

-- the counts are those of the regions that show each entity
abbrev pub IsTally : List ℕ → List Region → Type 0
IsTally counts regions = (y : ℕ) → slice_index counts y ≡ count_onto regions y

-- the edges of one entity count these regions
abbrev pub IsRow : Edges → ℕ → List Region → Type 0
IsRow edges x regions = (y : ℕ) → edges x y ≡ count_onto regions y
