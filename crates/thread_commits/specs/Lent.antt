-- Cells that are lent, beside those that aren't.
use Rattle.std.specs.Prelude.{◌≡◌, ℕ, false, List, length, slice_get}
use Rattle.thread_history.specs.Rules.{is_among}
use Rattle.kernel_commit_facts.specs.cell_states.declared.cells.Cell.{Cell}

-- all cells but those with these numbers are as they were
pub record OthersStay (xs : List ℕ) (cs cs' : List Cell) : Type 0 where
  pub len : length cs' ≡ length cs
  pub same : (x : ℕ) → is_among x xs ≡ false → slice_get cs' x ≡ slice_get cs x
