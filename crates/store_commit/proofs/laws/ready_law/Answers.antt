use Rattle.store_commit.proofs.Readying.{ready_law}
use Rattle.store_commit.proofs.laws.ready_law.Goals as goal

pub returns : goal.returns
returns g c t = ready_law g.D.Disk
