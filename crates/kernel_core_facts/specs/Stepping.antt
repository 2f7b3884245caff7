-- A step that was made, one that stopped, and a step in a run.
use Rattle.std.specs.Prelude.{◌≡◌, ℕ, ◌+◌, ◌<◌, ◌&&◌, Bool, true, false, List, [], ◌∷◌, ◌++◌, Option, Some, slice_get}
use Rattle.edge_disk.specs.declared.disk.Disk.{Ghosts}
use Rattle.edge_disk.specs.Counts.{Rose}
use Rattle.base_types.specs.declared.histories.Answer.{Answer}
use Rattle.base_types.specs.declared.histories.Answer.TheVariants.{Reply as Replied}
use Rattle.base_types.specs.declared.histories.Entry.{Entry}
use Rattle.base_types.specs.declared.instructions.Instr.{Instr}
use Rattle.base_types.specs.declared.instructions.Reply.TheVariants.{Ok as AnsweredOk}
use Rattle.table_births.specs.model_kernel.Histories.{stabilises}
use Rattle.table_births.specs.model_kernel.Serial.{can_step}
use Rattle.table_births.specs.model_kernel.State.{KernelState, Supply}
use Rattle.table_births.specs.model_kernel.Steps.{step}
use Rattle.table_births.specs.page_store.declared.faults.PageFault.{PageFault}
use Rattle.table_births.specs.page_store.declared.faults.PageFault.TheVariants as page
use Rattle.kernel_commits.specs.store_facts.State.{books}
use Rattle.table_births.specs.cell_states.declared.cells.Cell.{Cell}
use Rattle.table_births.specs.cell_plans.Plans.{idle_of}
use Rattle.table_births.specs.cell_plans.declared.idle.Idle.{Idle}
use Rattle.table_births.specs.table_laws.Steps.{EntersStep}
use Rattle.table_births.specs.table_laws.Tables.{IsOrderly, left_of, state_in}
use Rattle.kernel_commits.specs.kernel_invariant.Beginnings.{Beginning, run_of}
use Rattle.kernel_commits.specs.model_serial.Serial.{IsBehind, written_in}
use Rattle.kernel_commits.specs.kernel_commit_facts.Parts.{Parts, StandsAs}
use Rattle.kernel_commits.specs.kernel_commit_facts.Short.{IsPageWanting}
use Rattle.kernel_commits.specs.kernel_commit_facts.Steady.{entries_taken, steps_to_come}
use Rattle.kernel_commits.specs.kernel_invariant.declared.stopping.Stopped.{Stopped}
use Rattle.kernel_commits.specs.kernel_invariant.declared.stopping.Stopped.TheVariants as reason

-- why a locus can't step, if it can't, whatever the blocks hold
abbrev pub idle_at : Supply → (ℕ → List ℕ) → ℕ → List Cell → Option Idle
idle_at s words me cs = idle_of (left_of (slice_get cs me)) (state_in s words cs me).cell

-- the step was answered Ok
abbrev pub is_ok : Answer → Bool
is_ok (Replied AnsweredOk) = true
is_ok answer = false

-- a step of this instruction that is answered so owes a Stable
abbrev pub is_owing : Instr → Answer → Bool
is_owing i a = stabilises (Replied AnsweredOk) i && is_ok a

-- the faults of paging over a store that works
abbrev pub IsOfOpen : PageFault → Type 0
IsOfOpen (page.NoBlocks n) = Unit {0}
IsOfOpen page.ReadFault = Unit {0}
IsOfOpen page.WriteFault = Unit {0}
IsOfOpen page.Shut = ⊥

-- why such a fault stops the kernel
abbrev pub stop_by : PageFault → Stopped
stop_by (page.NoBlocks n) = reason.NoBlocks n
stop_by page.ReadFault = reason.ReadFault
stop_by page.WriteFault = reason.WriteFault
stop_by page.Shut = reason.WriteFault

module _ {D : Type 0} (disks : Ghosts D) where
  -- A STEP was made and its entry noted
  pub record HasStepped (me : ℕ) (old new : Parts D) (e : Entry) : Type 0 where
    pub enters : EntersStep me old.cells new.cells e
    pub entries : new.noted.entries ≡ old.noted.entries ++ e ∷ []
    pub marks : new.noted.marks ≡ old.noted.marks
    pub room : new.noted.room ≡ old.noted.room
    pub spare : steps_to_come new.cells + entries_taken new.noted.entries < new.noted.room

  -- the cause of a stop: the step was short of a block for a page, or the disk's count of faults rose, at a read or at a write
  abbrev pub HasCause : ℕ → Parts D → Parts D → Stopped → Type 0
  HasCause me old new (reason.NoBlocks n) = IsPageWanting me old new n
  HasCause me old new reason.ReadFault = Rose (disks.faults old.store.disk) (disks.faults new.store.disk)
  HasCause me old new reason.WriteFault = Rose (disks.faults old.store.disk) (disks.faults new.store.disk)

  -- NO STEP WAS MADE, for a fault: nothing is noted
  pub record StopsStep (me : ℕ) (old new : Parts D) (why : Stopped) : Type 0 where
    pub noted : new.noted ≡ old.noted
    pub orderly : IsOrderly (books new.store).held new.cells
    pub cause : HasCause me old new why

  -- in a run the step is the model's, and the wishes that are due behind it are of what it wrote
  pub record StepsInRun (b : Beginning) (me : ℕ) (e : Entry) (old new : Parts D) : Type 0 where
    pub stands : StandsAs disks b new
    pub state : KernelState
    pub is : step b.supply me (run_of b old.noted.entries).state ≡ Some (e, state)
    pub can : can_step b.script (run_of b old.noted.entries) me ≡ true
    pub behind : IsBehind b.policy (run_of b new.noted.entries) (written_in e.touched)
