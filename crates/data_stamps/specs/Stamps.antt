-- Vector clocks as functions of entities.
use Rattle.std.specs.Prelude.{ℕ, ◌≤◌, slice_index}
use Rattle.data_stamps.specs.declared.Stamp.{Stamp}

-- the version of the entity y, 0 past the last entity
abbrev pub component : Stamp → ℕ → ℕ
component s y = slice_index s.0 y

-- no component of f is above that of g
abbrev pub IsWithin : (ℕ → ℕ) → (ℕ → ℕ) → Type 0
IsWithin f g = (y : ℕ) → f y ≤ g y

-- h is above both, and no other that is has a lower component
pub record IsLeastUpperBound (h f g : ℕ → ℕ) : Type 0 where
  pub first : IsWithin f h
  pub second : IsWithin g h
  pub least : (k : ℕ → ℕ) → IsWithin f k → IsWithin g k → IsWithin h k
