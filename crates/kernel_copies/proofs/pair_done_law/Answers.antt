use Rattle.kernel_copies.proofs.Pairing.{pair_done}
use Rattle.kernel_copies.proofs.pair_done_law.Goals as goal

pub returns : goal.returns
returns g c = λ s name fresh v w old mid new bk between third tables entity version stamp blob table entity2 version2 stamp2 blob2 table2 t right working may first second two image leaves.
    pair_done g.D.Disk (λ d image told left. g.met.D.Disk.only_now d image told left)
    s name fresh v w old mid bk between tables entity version stamp blob table entity2 version2 stamp2 blob2 table2 t right working may first new third second g.met.D.Disk.counts_now two image leaves
