-- Wishes for snapshots, as cells keep them.
use Rattle.std.specs.Prelude.{◌≡◌, ℕ, ◌+◌, ◌-◌, Bool, ◌&&◌, ◌||◌}
use Rattle.cell_clocks.specs.model_kernel.State.{Cell as ModelCell}
use Rattle.cell_clocks.specs.model_kernel.Histories.{Policy, Run, every_of}
use Rattle.cell_states.specs.declared.cells.Cell.{Cell}
use Rattle.cell_states.specs.declared.cells.Wish.{Wish}

-- whether the wish of an entity with this cell and this version is open
abbrev pub is_open : Policy → ModelCell → ℕ → Wish → Bool
is_open policy cell version wish = wish.by_step && policy (every_of cell) (version - wish.newest) || wish.asked

-- The run has the wish of the cell at its number, and of so many steps the locus has left what the cell says.
pub record HasWish (steps : ℕ) (r : Run) (c : Cell) : Type 0 where
  pub newest : r.newest c.clock.entity ≡ c.wish.newest
  pub by_step : r.by_step c.clock.entity ≡ c.wish.by_step
  pub asked : r.asked c.clock.entity ≡ c.wish.asked
  pub left : r.steps c.clock.entity + c.left ≡ steps
