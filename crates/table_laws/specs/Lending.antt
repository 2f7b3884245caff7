-- Some cells of the table are lent, and come back changed.
use Rattle.std.specs.Prelude.{◌≡◌, ◌≢◌, ℕ, List, [], ◌∷◌, length, slice_get, Some}
use Rattle.cell_steps.specs.cell_states.declared.cells.Cell.{Cell}

-- each pair of the two lists, which are as long
abbrev pub ForPairs : (Cell → Cell → Type 0) → List Cell → List Cell → Type 0
ForPairs R [] [] = Unit {0}
ForPairs R (c ∷ old) (d ∷ new) = R c d × ForPairs R old new
ForPairs R [] (d ∷ new) = ⊥
ForPairs R (c ∷ old) [] = ⊥

abbrev pub IsSameNumber : Cell → Cell → Type 0
IsSameNumber c d = d.clock.entity ≡ c.clock.entity

-- each cell stands at its number
abbrev pub StandIn : List Cell → List Cell → Type 0
StandIn cs [] = Unit {0}
StandIn cs (c ∷ old) = (slice_get cs c.clock.entity ≡ Some c) × StandIn cs old

-- the number is none of these cells'
abbrev pub IsApart : ℕ → List Cell → Type 0
IsApart x [] = Unit {0}
IsApart x (c ∷ old) = (x ≢ c.clock.entity) × IsApart x old

-- THE CELLS ARE LENT from the table, which is the same but for them
pub record Lends (cs cs' old new : List Cell) : Type 0 where
  pub len : length cs' ≡ length cs
  pub numbers : ForPairs IsSameNumber old new
  pub stood : StandIn cs old
  pub stand : StandIn cs' new
  pub others : (x : ℕ) → IsApart x old → slice_get cs' x ≡ slice_get cs x
