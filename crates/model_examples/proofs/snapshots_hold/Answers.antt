use Rattle.std.proofs.Common.{refl}
use Rattle.model_run_laws.specs.model_kernel.Refusals.{refusal}
use Rattle.model_run_laws.specs.model_kernel.Acts.{allowed, wanted}
use Rattle.model_run_laws.specs.model_kernel.Outcomes.{local_act, on_cell, with_newborn, outcome}
use Rattle.model_run_laws.specs.model_kernel.Changes.{changed}
use Rattle.model_run_laws.specs.model_kernel.Steps.{change_of, step_change}
use Rattle.model_examples.proofs.Snapshots.{abandoned, both, legal}
use Rattle.model_examples.proofs.snapshots_hold.Goals as goal

pub returns-clause-legal : goal.returns-clause-legal
returns-clause-legal c = legal

pub returns-clause-versions : goal.returns-clause-versions
unfolding refusal allowed wanted local_act on_cell with_newborn outcome changed change_of step_change
returns-clause-versions c = (refl, refl, refl)

pub returns-clause-commits : goal.returns-clause-commits
unfolding refusal allowed wanted local_act on_cell with_newborn outcome changed change_of step_change
returns-clause-commits c = refl

pub returns-clause-abandoned : goal.returns-clause-abandoned
returns-clause-abandoned c = abandoned

pub returns-clause-both : goal.returns-clause-both
returns-clause-both c = both
