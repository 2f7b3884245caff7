use Rattle.model_kernel.proofs.LegalRuns.{legal_part, legal_past}
use Rattle.model_kernel.proofs.laws.vector_law.Goals as goal

pub returns-clause-closed : goal.returns-clause-closed
returns-clause-closed c = legal_part

pub returns-clause-stamps : goal.returns-clause-stamps
returns-clause-stamps c s policy script = legal_past s policy script
