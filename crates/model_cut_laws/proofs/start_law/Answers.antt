use Rattle.model_cut_laws.proofs.Joins.{from_nothing, to_nothing}
use Rattle.model_cut_laws.proofs.start_law.Goals as goal

pub returns-clause-up : goal.returns-clause-up
returns-clause-up c = from_nothing

pub returns-clause-down : goal.returns-clause-down
returns-clause-down c = to_nothing
