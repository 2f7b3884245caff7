use Rattle.cell_step_laws.proofs.Noted.{wished}
use Rattle.cell_step_laws.proofs.wished_run_law.Goals as goal

pub returns : goal.returns
returns c = wished
