use Rattle.store_copies.proofs.Moments.{copy_moments}
use Rattle.store_copies.proofs.copy_moments_law.Goals as goal

pub returns : goal.returns
returns g c = copy_moments g.D.Disk
