use Rattle.cell_step_laws.proofs.Noted.{noted}
use Rattle.cell_step_laws.proofs.noted_wish_law.Goals as goal

pub returns : goal.returns
returns c = noted
