use Rattle.cell_steps.proofs.Keeping.{looks_again}
use Rattle.cell_steps.proofs.laws.kept_memory_law.Goals as goal

pub returns : goal.returns
returns g c s = looks_again s g.B.PageStore.tells
