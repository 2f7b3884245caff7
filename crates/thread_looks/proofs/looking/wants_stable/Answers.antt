use Rattle.std.proofs.Common.{◌≡◌, ℕ, List, Some, subst}
use Rattle.std.specs.Prelude.{Result, IfErr, slice_get}
use Rattle.kernel_core_facts.specs.cell_plans.Plans.{idle_of}
use Rattle.kernel_core_facts.specs.cell_plans.declared.idle.Idle.{Idle}
use Rattle.kernel_core_facts.specs.cell_plans.declared.plans.Plan.{Plan}
use Rattle.kernel_core_facts.specs.table_laws.Tables.{left_of, state_in}
use Rattle.page_store.specs.model_kernel.State.{Supply}
use Rattle.thread_looks.proofs.Free.{wants_never}
use Rattle.thread_looks.proofs.looking.wants_stable.Goals as goal

pub returns-in-Err : goal.returns-in-Err
returns-in-Err c cs me at =
    let idle = λ (s : Supply) (words : ℕ → List ℕ). subst (λ (r : Result Plan Idle). IfErr r (λ why. idle_of (left_of (slice_get cs me)) (state_in s words cs me).cell ≡ Some why)) c.in-Err.is (at.idle s words) in
    ((λ is. absurd (cc is)), (λ w. absurd (wants_never cs me c.in-Err.field-0 idle w)))
