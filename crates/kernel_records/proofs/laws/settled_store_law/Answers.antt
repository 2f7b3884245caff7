use Rattle.kernel_records.proofs.Newest.{keeps_newest}
use Rattle.kernel_records.proofs.laws.settled_store_law.Goals as goal

pub returns : goal.returns
returns c = keeps_newest
