use Rattle.std.proofs.Common.{arith}
use Rattle.model_cut_laws.specs.model_kernel.Histories.{start_run}
use Rattle.model_run_laws.proofs.Tellings.{none_writes, steps_told, versions_told}
use Rattle.model_run_laws.proofs.run_counts_law.Goals as goal

pub returns-clause-versions : goal.returns-clause-versions
returns-clause-versions c s policy script w es x legal = versions_told s policy script w es x legal

pub returns-clause-steps : goal.returns-clause-steps
returns-clause-steps c s script w es x = let e = steps_told s script (start_run w) es x in omega (arith, e)

pub returns-clause-written : goal.returns-clause-written
returns-clause-written c x es fs same = none_writes x es fs same
