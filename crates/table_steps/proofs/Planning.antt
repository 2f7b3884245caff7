-- What a plan of one cell says of the table.
use Rattle.std.proofs.Common.{◌≡◌, ℕ, List, slice_get, Some, None, Result, Ok, Err, IfErr, IfOk, ap, ◌∙◌}
use Rattle.base_types.specs.declared.instructions.Instr.{Instr}
use Rattle.page_store.specs.model_kernel.Histories.{locus_in}
use Rattle.page_store.specs.model_kernel.State.{Supply}
use Rattle.table_laws.specs.act_alone.Loci.{locus_of}
use Rattle.table_laws.specs.cell_states.declared.cells.Cell.{Cell}
use Rattle.table_laws.specs.cell_states.Cells.{part_of}
use Rattle.table_laws.specs.cell_plans.Plans.{IsPlanned, idle_of}
use Rattle.table_laws.specs.cell_plans.declared.idle.Idle.{Idle}
use Rattle.table_laws.specs.cell_plans.declared.plans.Plan.{Plan}
use Rattle.table_laws.specs.cell_plans.declared.plans.Reach.{Reach}
use Rattle.table_laws.specs.cell_plans.declared.plans.Reach.TheVariants as reach
use Rattle.table_laws.specs.cell_steps.model_acts.declared.choice.Act.{Act}
use Rattle.table_laws.specs.Steps.{IsPlannedAt}
use Rattle.table_laws.specs.Tables.{entity_in, left_of, state_in}
use Rattle.table_steps.specs.Wanting.{HasNext}

module _ (s : Supply) (words : ℕ → List ℕ) (cs : List Cell) (me : ℕ) (cell : Cell) (here : slice_get cs me ≡ Some cell) where
  idle_here : idle_of (left_of (slice_get cs me)) (state_in s words cs me).cell ≡ idle_of cell.left (part_of s words cell.part)
  idle_here = ap (λ o. idle_of (left_of o) (entity_in s words me o).cell) here

  pub err_along : (r : Result Plan Idle) → IfErr r (λ why. idle_of cell.left (part_of s words cell.part) ≡ Some why) → IfErr r (λ why. idle_of (left_of (slice_get cs me)) (state_in s words cs me).cell ≡ Some why)
  err_along (Ok p) h = h
  err_along (Err why) h = idle_here ∙ h

  pub ok_idle : (r : Result Plan Idle) → IfOk r (λ _. idle_of cell.left (part_of s words cell.part) ≡ None) → IfOk r (λ _. idle_of (left_of (slice_get cs me)) (state_in s words cs me).cell ≡ None)
  ok_idle (Ok p) h = idle_here ∙ h
  ok_idle (Err why) h = h

pub planned_here : (cs : List Cell) (me : ℕ) (cell : Cell) → slice_get cs me ≡ Some cell → (r : Result Plan Idle) → IfOk r (λ p. IsPlanned cell p.instr p.reach) → IfOk r (λ p. IsPlannedAt cs me p.instr p.reach)
planned_here cs me cell here (Ok p) h = record { cell = cell; is = here; plan = h }
planned_here cs me cell here (Err why) h = h

-- the instruction of an act that touches the locus alone is that of the plan
pub own_planned : (cs : List Cell) (me : ℕ) (i : Instr) (own : Act) → IsPlannedAt cs me i (reach.Alone own) → IsPlannedAt cs me own.instr (reach.Alone own)
own_planned cs me i own p = record {
  cell = p.cell;
  is = p.is;
  plan = record { locus = p.plan.locus; runs = p.plan.runs; left = p.plan.left; instr = p.plan.wants.wants.instr; wants = p.plan.wants };
}

-- the locus has the instruction of its plan next
pub has_next : (cs : List Cell) (me : ℕ) (i : Instr) (r : Reach) → IsPlannedAt cs me i r → HasNext me cs i
has_next cs me i r p = record {
  locus = locus_of p.plan.locus;
  is = λ s words. ap (λ o. locus_in (entity_in s words me o).cell) p.is ∙ ap (λ k. locus_in (part_of s words k)) p.plan.runs.is;
  instr = p.plan.instr;
}

pub next_here : (cs : List Cell) (me : ℕ) (cell : Cell) → slice_get cs me ≡ Some cell → (r : Result Plan Idle) → IfOk r (λ p. IsPlanned cell p.instr p.reach) → IfOk r (λ p. HasNext me cs p.instr)
next_here cs me cell here (Ok p) h = has_next cs me p.instr p.reach (record { cell = cell; is = here; plan = h })
next_here cs me cell here (Err why) h = h
