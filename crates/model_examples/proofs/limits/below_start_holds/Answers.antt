use Rattle.std.proofs.Common.{refl}
use Rattle.model_run_laws.specs.model_kernel.Refusals.{refusal}
use Rattle.model_run_laws.specs.model_kernel.Acts.{allowed, wanted}
use Rattle.model_run_laws.specs.model_kernel.Outcomes.{local_act, on_cell, with_newborn, outcome}
use Rattle.model_run_laws.specs.model_kernel.Changes.{changed}
use Rattle.model_run_laws.specs.model_kernel.Steps.{change_of, step_change}
use Rattle.model_examples.proofs.limits.below_start_holds.Goals as goal

pub returns : goal.returns
unfolding refusal allowed wanted local_act on_cell with_newborn outcome changed change_of step_change
returns c = (refl, refl)
