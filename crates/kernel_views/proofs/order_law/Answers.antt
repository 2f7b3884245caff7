use Rattle.kernel_views.proofs.Behind.{order}
use Rattle.kernel_views.proofs.order_law.Goals as goal

pub returns : goal.returns
returns g c cs cs' a d old new ord lends founded l =
    order g.D.Disk cs cs' a d old new ord lends founded l
