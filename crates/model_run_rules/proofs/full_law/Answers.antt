use Rattle.model_run_rules.proofs.Fullness.{full_told}
use Rattle.model_run_rules.proofs.full_law.Goals as goal

pub returns : goal.returns
returns c s script w es x = full_told s script w es x
