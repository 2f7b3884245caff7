-- A checker stands behind each front of a legal run.
use Rattle.std.proofs.Common.{List, [], ◌∷◌, ◌++◌, sym, subst}
use Rattle.base_types.specs.declared.histories.Entry.{Entry}
use Rattle.plain_states.specs.model_kernel.Histories.{May, Policy, Run, goes_on, start_run}
use Rattle.plain_states.specs.model_kernel.Scripts.{Script}
use Rattle.plain_states.specs.model_kernel.State.{KernelState, Supply}
use Rattle.trace_steps.specs.Standing.{Keeps, Stands}
use Rattle.trace_step_facts.specs.Standing.{run_of}
use Rattle.trace_steps.specs.declared.checker.Checker.{Checker}
use Rattle.trace_step_facts.proofs.Running.{after_push, longer}

-- the checker stands one entry further
pub stands_on : (s : Supply) (policy : Policy) (script : Script) (w : KernelState) (old new : Checker) (es : List Entry) (e : Entry) → Stands s policy script w old es → May s policy script (run_of s script w es) e
    → Keeps s script (goes_on s script (run_of s script w es) e) new → Stands s policy script w new (es ++ e ∷ [])
stands_on s policy script w old new es e h may k = record {
  run = longer s policy script w es h.run e may;
  keeps = subst (λ (q : Run). Keeps s script q new) (sym (after_push s script (start_run w) es e)) k;
}
