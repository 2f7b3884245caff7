use Rattle.store_commit.proofs.Fitting.{kept_fit}
use Rattle.store_commit.proofs.laws.kept_fit_law.Goals as goal

pub returns : goal.returns
returns c = kept_fit
