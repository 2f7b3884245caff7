-- Whom the next step of a locus touches, and so which cells a client lends to it.
use Rattle.std.specs.Prelude.{◌≡◌, ◌⊎◌, ℕ, List, [], slice_get, Some}
use Rattle.base_types.specs.declared.instructions.Instr.{Instr}
use Rattle.page_store.specs.model_kernel.State.{Supply}
use Rattle.thread_cell_steps.specs.table_laws.act_calls.Calls.{atlas_state}
use Rattle.thread_cell_steps.specs.table_laws.data_atlas_facts.Directory.{Directory}
use Rattle.thread_cell_steps.specs.table_laws.cell_plans.Plans.{idle_of}
use Rattle.thread_cell_steps.specs.table_laws.cell_plans.declared.idle.Idle.{Idle}
use Rattle.thread_cell_steps.specs.table_laws.cell_plans.declared.plans.Reach.{Reach}
use Rattle.thread_cell_steps.specs.table_laws.cell_states.Cells.{part_of}
use Rattle.thread_cell_steps.specs.table_laws.cell_states.declared.cells.Cell.{Cell}
use Rattle.thread_cell_steps.specs.table_laws.Steps.{HasDirectory, IsPlannedAt}
use Rattle.thread_cell_steps.specs.thread_steps.Lending.{touched_by}

-- the locus has a step, whose act touches exactly these besides it, the atlas first
pub record TouchesNext (cs : List Cell) (me : ℕ) (lent : List ℕ) : Type 0 where
  pub directory : Directory
  pub has : HasDirectory cs directory
  pub instr : Instr
  pub reach : Reach
  pub planned : IsPlannedAt cs me instr reach
  pub these : lent ≡ touched_by (atlas_state directory) reach

-- the locus can't step, for this reason, whatever the blocks hold
pub record IsIdleAt (cs : List Cell) (me : ℕ) : Type 0 where
  pub cell : Cell
  pub is : slice_get cs me ≡ Some cell
  pub why : Idle
  pub idle : (s : Supply) (words : ℕ → List ℕ) → idle_of cell.left (part_of s words cell.part) ≡ Some why

-- no other entity is touched next
abbrev pub TouchesNone : List Cell → ℕ → Type 0
TouchesNone cs me = IsIdleAt cs me ⊎ TouchesNext cs me []
