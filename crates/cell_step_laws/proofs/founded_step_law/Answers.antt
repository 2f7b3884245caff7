use Rattle.cell_step_laws.proofs.Noted.{founded_after, founded_left}
use Rattle.cell_step_laws.proofs.founded_step_law.Goals as goal

pub returns-clause-runs : goal.returns-clause-runs
returns-clause-runs c = founded_after

pub returns-clause-cells : goal.returns-clause-cells
returns-clause-cells c = founded_left
