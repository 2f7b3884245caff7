use Rattle.thread_history.proofs.Numbers.{all_there}
use Rattle.thread_history.proofs.laws.all_numbers_law.Goals as goal

pub returns : goal.returns
returns c = all_there
