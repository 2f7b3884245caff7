use Rattle.kernel_records.proofs.Telling.{left_cell}
use Rattle.kernel_records.proofs.laws.left_cell_law.Goals as goal

pub returns : goal.returns
returns g c = left_cell g.D.Disk
