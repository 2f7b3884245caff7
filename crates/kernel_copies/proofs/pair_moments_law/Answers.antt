use Rattle.kernel_copies.proofs.Pairing.{pair_moments}
use Rattle.kernel_copies.proofs.pair_moments_law.Goals as goal

pub returns : goal.returns
returns g c = λ s name fresh v w old mid new bk between tables entity version stamp blob table entity2 version2 stamp2 blob2 table2 t right working may first one two.
    pair_moments g.D.Disk (λ d image told left. g.met.D.Disk.only_now d image told left)
    s name fresh v w old mid bk between tables entity version stamp blob table entity2 version2 stamp2 blob2 table2 t right working may first new one two
