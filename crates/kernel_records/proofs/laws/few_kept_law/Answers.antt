use Rattle.kernel_records.proofs.Newest.{few_kept}
use Rattle.kernel_records.proofs.laws.few_kept_law.Goals as goal

pub returns : goal.returns
returns c = few_kept
