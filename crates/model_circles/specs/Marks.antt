-- Marks of numbers, one in each place of a list, and where they have spread along edges.
use Rattle.std.specs.Prelude.{◌≡◌, ℕ, ◌<◌, Bool, true, false, List, slice_index_or}
use Rattle.base_types.specs.Edges.{Edges}

-- whether the number is marked, false past the last one
abbrev pub is_marked : List Bool → ℕ → Bool
is_marked marks n = slice_index_or marks n false

-- no edge leads from a marked number to one that isn't
abbrev pub IsClosed : Edges → List Bool → Type 0
IsClosed edges marks = (x y : ℕ) → is_marked marks x ≡ true → 0 < edges x y → is_marked marks y ≡ true
