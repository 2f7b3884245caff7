use Rattle.kernel_records.proofs.Telling.{told_commit}
use Rattle.kernel_records.proofs.laws.told_commit_law.Goals as goal

pub returns : goal.returns
returns g c = told_commit g.D.Disk
