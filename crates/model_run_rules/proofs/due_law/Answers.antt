use Rattle.model_run_rules.proofs.Fullness.{due_told}
use Rattle.model_run_rules.proofs.due_law.Goals as goal

pub returns : goal.returns
returns c s policy script w es x legal low = due_told s policy script x w es legal low
