use Rattle.std.proofs.Common.{[], lit<, refl, inl}
use Rattle.model_run_laws.specs.model_kernel.Refusals.{refusal}
use Rattle.model_run_laws.specs.model_kernel.Acts.{allowed, wanted}
use Rattle.model_run_laws.specs.model_kernel.Outcomes.{local_act, on_cell, with_newborn, outcome}
use Rattle.model_run_laws.specs.model_kernel.Changes.{changed}
use Rattle.model_run_laws.specs.model_kernel.Steps.{change_of, step_change}
use Rattle.model_examples.specs.Beyond.{halts}
use Rattle.model_examples.proofs.limits.beyond_64_holds.Goals as goal

pub returns-clause-legal : goal.returns-clause-legal
unfolding refusal allowed wanted local_act on_cell with_newborn outcome changed change_of step_change
returns-clause-legal c = ((refl, (refl, refl, lit< tt, refl, refl)), tt)

pub returns-clause-newest : goal.returns-clause-newest
unfolding refusal allowed wanted local_act on_cell with_newborn outcome changed change_of step_change
returns-clause-newest c = (refl, refl)

pub returns-clause-told : goal.returns-clause-told
unfolding refusal allowed wanted local_act on_cell with_newborn outcome changed change_of step_change
returns-clause-told c = inl (record { before = []; step = halts; later = []; split = refl; made = refl; wrote = refl; last = refl; since = refl }, refl)

pub returns-clause-kept : goal.returns-clause-kept
unfolding refusal allowed wanted local_act on_cell with_newborn outcome changed change_of step_change
returns-clause-kept c = refl
