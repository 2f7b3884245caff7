use Rattle.cell_steps.proofs.Staying.{cell_stays}
use Rattle.cell_steps.proofs.laws.unlent_cells_law.Goals as goal

pub returns : goal.returns
returns c = cell_stays
