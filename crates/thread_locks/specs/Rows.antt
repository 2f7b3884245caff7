-- Several cells that are lent from under their locks.
use Rattle.std.specs.Prelude.{◌≡◌, ◌+◌, ℕ, List, length, Some, slice_get}
use Rattle.thread_items.specs.thread_desk.Sights.{Sighted}

-- so many cells are lent, of the numbers from this one on, in their order
pub record AreFrom {D : Type 0} (from many : ℕ) (ss : List (Sighted D)) : Type 0 where
  pub len : length ss ≡ many
  pub each : (i : ℕ) (s : Sighted D) → slice_get ss i ≡ Some s → s.number ≡ from + i
