use Rattle.kernel_views.proofs.Stopping.{stops}
use Rattle.kernel_views.proofs.stop_law.Goals as goal

pub returns : goal.returns
returns g c b cs cs' old new es marks why st k =
    stops g.D.Disk b cs cs' old new es marks why st k
