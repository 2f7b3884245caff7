use Rattle.cell_step_laws.proofs.Noted.{names, stays, stays_past}
use Rattle.cell_step_laws.proofs.step_leaves_law.Goals as goal

pub returns-clause-entry : goal.returns-clause-entry
returns-clause-entry c = names

pub returns-clause-rest : goal.returns-clause-rest
returns-clause-rest c = stays

pub returns-clause-past : goal.returns-clause-past
returns-clause-past c s me w v e sound is = stays_past s me w v e is sound
