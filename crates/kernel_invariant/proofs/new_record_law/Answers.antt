use Rattle.kernel_invariant.proofs.Telling.{told_record}
use Rattle.kernel_invariant.proofs.new_record_law.Goals as goal

pub returns : goal.returns
returns c b es image table k legal t = told_record b es legal image table k t
