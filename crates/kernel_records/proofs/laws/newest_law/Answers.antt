use Rattle.kernel_records.proofs.Newest.{newest_goes_on}
use Rattle.kernel_records.proofs.laws.newest_law.Goals as goal

pub returns : goal.returns
returns c = newest_goes_on
