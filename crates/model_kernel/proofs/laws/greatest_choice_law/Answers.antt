use Rattle.model_kernel.proofs.Lowering.{greatest_is, greatest_one, rising_cut}
use Rattle.model_kernel.proofs.laws.greatest_choice_law.Goals as goal

pub returns-clause-exists : goal.returns-clause-exists
returns-clause-exists c = greatest_is

pub returns-clause-one : goal.returns-clause-one
returns-clause-one c = greatest_one

pub returns-clause-rising : goal.returns-clause-rising
returns-clause-rising c = rising_cut
