-- What a step leaves of a kernel, and what it comes to in a run.
use Rattle.std.specs.Prelude.{◌≡◌, ◌↔◌, ℕ, false, List, Some, IfErr, IfOk, IsErrOf, Ok, Err, OnOk, Result}
use Rattle.edge_disk.specs.declared.disk.Disk.{Ghosts}
use Rattle.edge_disk.specs.declared.disk.NoBlocks.{NoBlocks}
use Rattle.table_births.specs.model_kernel.Serial.{can_step}
use Rattle.table_births.specs.model_kernel.State.{Supply}
use Rattle.table_births.specs.cell_plans.declared.idle.Idle.{Idle}
use Rattle.table_births.specs.table_laws.Tables.{AreClean}
use Rattle.table_births.specs.table_steps.Wanting.{HasNext}
use Rattle.table_births.specs.table_steps.declared.stepping.Made.{Made as Step}
use Rattle.kernel_commits.specs.kernel_record_facts.Cells.{words_on}
use Rattle.kernel_commits.specs.kernel_invariant.Beginnings.{Beginning, run_of}
use Rattle.kernel_commits.specs.kernel_invariant.Live.{IsCalm}
use Rattle.kernel_commits.specs.model_serial.Serial.{look}
use Rattle.kernel_commits.specs.kernel_commit_facts.Lacking.{LacksIn}
use Rattle.kernel_commits.specs.kernel_commit_facts.Pieces.{CountsWithin}
use Rattle.kernel_commits.specs.kernel_commit_facts.Parts.{LivesAs, Parts, StandsAs}
use Rattle.kernel_commits.specs.kernel_commit_facts.Short.{WantsPage}
use Rattle.kernel_commits.specs.kernel_commit_facts.Steady.{IsSteady}
use Rattle.kernel_commits.specs.kernel_invariant.declared.stopping.Stopped.{Stopped}
use Rattle.kernel_commits.specs.kernel_invariant.declared.stopping.Stopped.TheVariants as reason
use Rattle.kernel_core_facts.specs.declared.looked.Looked.{Looked}
use Rattle.kernel_core_facts.specs.declared.looked.Looked.TheVariants.{Idle as IdleFor, Made}
use Rattle.kernel_core_facts.specs.Stepping.{idle_at, HasStepped, StopsStep, StepsInRun}

-- of a step that was made
abbrev pub IfMade : Looked → (Step → Type 0) → Type 0
IfMade (Made m) P = P m
IfMade (IdleFor why) P = Unit {0}

module _ {D : Type 0} (disks : Ghosts D) where
  abbrev pub RunsStep : Beginning → ℕ → Parts D → Parts D → Result Looked Stopped → Type 0
  RunsStep b me old new (Ok (Made m)) = StepsInRun disks b me m.entry old new
  RunsStep b me old new (Ok (IdleFor why)) = can_step b.script (run_of b old.noted.entries) me ≡ false
  RunsStep b me old new (Err why) = LivesAs disks b new (Some why)

  -- WHAT A STEP LEAVES of the parts
  pub record StepsOnce (supply : Supply) (me : ℕ) (old new : Parts D) (result : Result Looked Stopped) : Type 0 where
    pub idle : (s : Supply) (words : ℕ → List ℕ) (why : Idle) → (idle_at s words me old.cells ≡ Some why) ↔ (result ≡ Ok (IdleFor why))
    pub still : (why : Idle) → result ≡ Ok (IdleFor why) → new ≡ old
    pub made : IfOk result (λ o. IfMade o (λ m. HasStepped disks me old new m.entry))
    pub next : IfOk result (λ o. IfMade o (λ m. HasNext me old.cells m.instr))
    pub failed : IfErr result (StopsStep disks me old new)
    pub short : (n : NoBlocks) → IsErrOf result (reason.NoBlocks n) ↔ WantsPage me old n
    pub steady : OnOk result (IsSteady disks new)
    pub clean : disks.tells → AreClean supply (words_on (disks.reading new.store.disk)) new.cells
    pub counts : CountsWithin disks 1 old.store new.store
    pub run : disks.tells → (b : Beginning) → b.supply ≡ supply → StandsAs disks b old → IsCalm b old.noted.entries
        → RunsStep b me old new result
    -- short of a block only where the image lacks them, and the step is next
    pub enough : disks.tells → (b : Beginning) → b.supply ≡ supply → StandsAs disks b old → IsCalm b old.noted.entries
        → (n : NoBlocks) → IsErrOf result (reason.NoBlocks n) → LacksIn disks b n (look b.supply b.policy b.script (run_of b old.noted.entries) me) old.noted.entries new
