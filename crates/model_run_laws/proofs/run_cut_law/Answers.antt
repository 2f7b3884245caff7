use Rattle.std.proofs.Common.{false}
use Rattle.model_run_laws.proofs.Cuts.{cut_kept}
use Rattle.model_run_laws.proofs.run_cut_law.Goals as goal

pub returns : goal.returns
returns c s script w es = cut_kept s (λ _ _. false) script w es
