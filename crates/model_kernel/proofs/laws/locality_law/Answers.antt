use Rattle.model_kernel.proofs.Locality.{step_local, birth_local, next_birth_local}
use Rattle.model_kernel.proofs.Unwritten.{legal_stays}
use Rattle.model_kernel.proofs.laws.locality_law.Goals as goal

pub returns-clause-step : goal.returns-clause-step
returns-clause-step c = step_local

pub returns-clause-birth : goal.returns-clause-birth
returns-clause-birth c = birth_local

pub returns-clause-next_birth : goal.returns-clause-next_birth
returns-clause-next_birth c = next_birth_local

pub returns-clause-unwritten : goal.returns-clause-unwritten
returns-clause-unwritten c = legal_stays
