use Rattle.std.proofs.Common.{false}
use Rattle.model_run_laws.proofs.Places.{things_stay, cuts_stay, first_stay}
use Rattle.model_run_laws.proofs.cuts_stay_law.Goals as goal

pub returns-clause-things : goal.returns-clause-things
returns-clause-things c s policy script w es fs x n = things_stay s policy script w es fs x n

pub returns-clause-cuts : goal.returns-clause-cuts
returns-clause-cuts c s policy script w es fs cs later q = cuts_stay s policy script w es fs cs later q

pub returns-clause-first : goal.returns-clause-first
returns-clause-first c s script w es fs k = first_stay s (λ _ _. false) script w es fs k
