-- The cells of a birth for which no number is free.
use Rattle.std.proofs.Common.{◌≡◌, ◌⊎◌, inl, inr, ℕ, ◌<◌, ◌≤◌, ◌^◌, Bool, List, length, slice_get, Some, arith}
use Rattle.cell_steps.specs.base_types.declared.instructions.Instr.{Instr}
use Rattle.cell_steps.specs.model_kernel.Refusals.{instr_at}
use Rattle.cell_steps.specs.data_atlas_facts.Directory.{Directory}
use Rattle.cell_steps.specs.act_alone.Loci.{locus_of}
use Rattle.cell_steps.specs.act_alone.declared.loci.Locus.{Locus}
use Rattle.cell_steps.specs.cell_states.declared.cells.Cell.{Cell}
use Rattle.cell_steps.specs.cell_states.declared.cells.Part.TheVariants as part
use Rattle.cell_steps.specs.cell_states.Cells.{IsRunning}
use Rattle.cell_steps.specs.cell_newborns.Bearing.{NoNumberFree}
use Rattle.cell_steps.specs.cell_plans.declared.plans.Reach.{Reach}
use Rattle.cell_steps.specs.cell_plans.declared.plans.Reach.TheVariants as reach
use Rattle.table_laws.specs.Steps.{HasDirectory, IsPlannedAt}
use Rattle.table_laws.specs.Tables.{AreFewWrites, IsOrderly}
use Rattle.table_laws.proofs.Facing.{high_at, plan_of}
use Rattle.table_laws.proofs.FacingAtlas.{directory_is}

abbrev pub WantsBarren : List Cell → ℕ → Instr → Type 0
WantsBarren cs me i = (d : Directory) × HasDirectory cs d × ((IsPlannedAt cs me i reach.Make × (40 ≤ length d.containers)) ⊎ (IsPlannedAt cs me i reach.Spawn × (23 ≤ length d.loci)))

pub planned_barren : (cs : List Cell) (me : ℕ) (i : Instr) → WantsBarren cs me i → (r : Reach) × IsPlannedAt cs me i r
planned_barren cs me i w = elim w.2 as (λ _. (r : Reach) × IsPlannedAt cs me i r) [ inl make ↦ (reach.Make, make.0) | inr spawn ↦ (reach.Spawn, spawn.0) ]

pub record FacesBarren (a k : Cell) (i : Instr) : Type 0 where
  pub wants : (l : Locus) × IsRunning a.part l × (d : Directory) × (k.part ≡ part.Atlas d) × NoNumberFree (locus_of l) d × (i ≡ instr_at (locus_of l))
  pub left : 0 < a.left
  pub atlas : k.clock.entity ≡ 0
  pub some : 0 < a.clock.entity
  pub few : (a.clock.version < 2 ^ 63) × (k.clock.version < 2 ^ 63)

pub faces_barren : (held : ℕ → Bool) (cs : List Cell) (orderly : IsOrderly held cs) (me : ℕ) (i : Instr) (a k : Cell) → AreFewWrites cs → slice_get cs me ≡ Some a → slice_get cs 0 ≡ Some k → WantsBarren cs me i → FacesBarren a k i
faces_barren held cs orderly me i a k few is_a is_k w =
    let at_a = orderly.numbers.each me a is_a in
    let is = directory_is held cs orderly w.0 w.1 k is_k in
    elim w.2 as (λ _. FacesBarren a k i) [
      | inl make ↦ (
          let p = plan_of held cs orderly me i reach.Make make.0 a is_a in
          let high = high_at held cs orderly me a p.locus is_a p.runs.is in
          record { wants = (p.locus, p.runs, w.0, is, record { is = inl (p.wants, make.1) }, p.instr); left = p.left; atlas = orderly.numbers.each 0 k is_k; some = omega (arith, at_a, high); few = (few me a is_a, few 0 k is_k) })
      | inr spawn ↦ (
          let p = plan_of held cs orderly me i reach.Spawn spawn.0 a is_a in
          let high = high_at held cs orderly me a p.locus is_a p.runs.is in
          record { wants = (p.locus, p.runs, w.0, is, record { is = inr (p.wants, spawn.1) }, p.instr); left = p.left; atlas = orderly.numbers.each 0 k is_k; some = omega (arith, at_a, high); few = (few me a is_a, few 0 k is_k) })
    ]
