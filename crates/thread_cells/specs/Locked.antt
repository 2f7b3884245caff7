-- What callers see of a cell under its lock.
use Rattle.std.specs.Prelude.{ℕ, List}
use Rattle.base_types.specs.declared.histories.Entry.{Entry}
use Rattle.cell_states.specs.declared.cells.Cell.{Cell}

-- its number, itself, and the entries after the kept ones that its share knows
pub record Keeping : Type 0 where
  pub number : ℕ
  pub cell : Cell
  pub known : List Entry
