use Rattle.kernel_views.proofs.Stepping.{clean_on, made_event}
use Rattle.kernel_views.proofs.stepping_law.Goals as goal

pub returns : goal.returns
returns g c b me cs cs' old new es marks e told st calm k = (
  made_event g.D.Disk b me cs cs' old new es marks e told st calm k,
  clean_on g.D.Disk b me cs cs' old new es marks e told st calm k,
)
