use Rattle.thread_locks.proofs.Beginning.{born_along}
use Rattle.thread_locks.proofs.laws.births_law.Goals as goal

pub returns : goal.returns
returns g c = λ b old new none notes. born_along g.D.Disk b old new none notes
