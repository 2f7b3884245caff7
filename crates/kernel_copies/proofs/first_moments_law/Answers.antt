use Rattle.kernel_copies.proofs.Pairing.{first_moments, kept_means}
use Rattle.kernel_copies.proofs.first_moments_law.Goals as goal

pub returns-clause-kept : goal.returns-clause-kept
returns-clause-kept g c = kept_means

pub returns-clause-first : goal.returns-clause-first
returns-clause-first g c = λ s name fresh v w old mid bk tables entity version stamp blob table may one.
    first_moments g.D.Disk s name fresh v w old bk tables entity version stamp blob table may mid one
