use Rattle.kernel_core_facts.proofs.Bearing.{clean_on, made_birth}
use Rattle.kernel_core_facts.proofs.birth.birth_law.Goals as goal

pub returns : goal.returns
returns g c b cs cs' st es marks e told stands new k = (
  made_birth g.D.Disk g.met.D.Disk.only_now b cs cs' st es marks e told stands new k,
  clean_on g.D.Disk g.met.D.Disk.only_now b cs cs' st es marks e told stands new k,
)
