use Rattle.kernel_records.proofs.Fewer.{keeps_one_more}
use Rattle.kernel_records.proofs.laws.kept_more_law.Goals as goal

pub returns : goal.returns
returns c = keeps_one_more
