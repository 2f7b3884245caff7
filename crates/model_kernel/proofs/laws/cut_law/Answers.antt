use Rattle.model_kernel.proofs.CommitStamps.{legal_choice, legal_greatest}
use Rattle.model_kernel.proofs.laws.cut_law.Goals as goal

pub returns-clause-closed : goal.returns-clause-closed
returns-clause-closed c = legal_choice

pub returns-clause-greatest : goal.returns-clause-greatest
returns-clause-greatest c = legal_greatest
