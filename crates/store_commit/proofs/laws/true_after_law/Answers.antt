use Rattle.store_commit.proofs.After.{true_after}
use Rattle.store_commit.proofs.laws.true_after_law.Goals as goal

pub returns : goal.returns
returns g c t = true_after g.D.Disk (λ d. g.met.D.Disk.reads_now d t)
