use Rattle.store_copies.proofs.Moments.{kept_again}
use Rattle.store_copies.proofs.kept_again_law.Goals as goal

pub returns : goal.returns
returns c = kept_again
