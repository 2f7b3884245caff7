-- What a step that leaves all blocks as they are makes of a cell.
use Rattle.std.specs.Prelude.{◌⊎◌}
use Rattle.cell_steps.specs.cell_states.declared.cells.Cell.{Cell}
use Rattle.cell_steps.specs.cell_calls.Besides.{KeepsMemory}
use Rattle.cell_steps.specs.cell_newborns.Bearing.{IsNewContainer, IsUnbornContainer}
use Rattle.table_laws.specs.Tables.{HasKind}

-- WHAT BECOMES OF A PART'S MEMORY: it is kept, or begins with the container
pub record GoesQuietly (c d : Cell) : Type 0 where
  pub kind : HasKind d.clock.entity d.part
  pub memory : KeepsMemory c.part d.part ⊎ (IsUnbornContainer c.part × IsNewContainer d.part)
