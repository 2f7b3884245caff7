-- The plan of a locus, by what it came to.
use Rattle.std.proofs.Common.{◌≡◌, ℕ, List, Ok, Err, Some, subst}
use Rattle.std.specs.Prelude.{Result, IfErr, IfOk}
use Rattle.table_laws.specs.cell_plans.Plans.{idle_of, IsPlanned}
use Rattle.table_laws.specs.cell_plans.declared.idle.Idle.{Idle}
use Rattle.table_laws.specs.cell_plans.declared.plans.Plan.{Plan}
use Rattle.table_laws.specs.cell_states.Cells.{part_of}
use Rattle.table_laws.specs.cell_states.declared.cells.Cell.{Cell}
use Rattle.page_store.specs.model_kernel.State.{Supply}
use Rattle.thread_cell_steps.specs.Advancing.{IsPlanOf}

-- a plan that was made is the next step's
pub step_planned : (c : Cell) (r : Result Plan Idle) (p : Plan) → IsPlanOf c r → r ≡ Ok p → IsPlanned c p.instr p.reach
step_planned c r p plan is = subst (λ (q : Result Plan Idle). IfOk q (λ x. IsPlanned c x.instr x.reach)) is plan.plans

-- a locus without one is idle so
pub idle_planned : (c : Cell) (r : Result Plan Idle) (why : Idle) → IsPlanOf c r → r ≡ Err why → (s : Supply) (words : ℕ → List ℕ) → idle_of c.left (part_of s words c.part) ≡ Some why
idle_planned c r why plan is s words = subst (λ (q : Result Plan Idle). IfErr q (λ w. idle_of c.left (part_of s words c.part) ≡ Some w)) is (plan.idle s words)
