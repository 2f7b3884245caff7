use Rattle.model_run_laws.proofs.Wishes.{wish_stays, steps_stay}
use Rattle.model_run_laws.proofs.unwritten_law.Goals as goal

pub returns-clause-wish : goal.returns-clause-wish
returns-clause-wish c s policy script w es fs x = wish_stays s policy script w es fs x

pub returns-clause-steps : goal.returns-clause-steps
returns-clause-steps c s policy script w es fs x = steps_stay s policy script w es fs x
