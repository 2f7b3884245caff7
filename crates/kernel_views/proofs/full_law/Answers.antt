use Rattle.kernel_views.proofs.Fullness.{full_same}
use Rattle.kernel_views.proofs.full_law.Goals as goal

pub returns : goal.returns
returns g c b cs st es marks x told k =
    full_same g.D.Disk b cs st es marks x told k
