use Rattle.model_clocks.proofs.Events.{birth_alike, step_alike}
use Rattle.model_clocks.proofs.unclocked_law.Goals as goal

pub returns-clause-step : goal.returns-clause-step
returns-clause-step c s l w v r is alike = step_alike s l w v r is alike

pub returns-clause-birth : goal.returns-clause-birth
returns-clause-birth c s script w v r is alike = birth_alike s script w v r is alike
