-- What one look at a locus leaves in a run.
use Rattle.std.specs.Prelude.{◌≡◌, ◌⊎◌, ℕ, ◌++◌, Option, Some, IfErr, IfSome, OnOk, Result}
use Rattle.edge_disk.specs.declared.disk.Disk.{Ghosts}
use Rattle.edge_disk.specs.declared.disk.NoBlocks.{NoBlocks}
use Rattle.base_types.specs.declared.histories.Entry.{Entry}
use Rattle.base_types.specs.declared.instructions.Instr.{Instr}
use Rattle.table_births.specs.model_kernel.Histories.{Policy}
use Rattle.table_births.specs.table_steps.Wanting.{HasNext}
use Rattle.kernel_commits.specs.kernel_invariant.Beginnings.{Beginning, run_of}
use Rattle.kernel_commits.specs.kernel_invariant.Live.{IsCalm}
use Rattle.kernel_commits.specs.model_serial.Serial.{look, written_in}
use Rattle.kernel_commits.specs.kernel_commit_facts.Parts.{LivesAs, Parts, StandsAs}
use Rattle.kernel_commits.specs.kernel_commit_facts.Short.{AreShortBehind, WantsPage}
use Rattle.kernel_commits.specs.kernel_commit_facts.Stabilising.{AreShort}
use Rattle.kernel_core_facts.specs.Stepping.{HasStepped, StopsStep, is_owing}
use Rattle.kernel_commits.specs.Stops.{LeavesStopped}
use Rattle.kernel_commits.specs.Telling.{AddsNoTried}
use Rattle.kernel_commits.specs.kernel_invariant.declared.stopping.Stopped.{Stopped}
use Rattle.kernel_commits.specs.kernel_invariant.declared.stopping.Stopped.TheVariants as reason

module _ {D : Type 0} (disks : Ghosts D) where
  module _ (policy : Policy) where
    -- A LOOK STOPPED BEHIND ITS STEP, which was made, whatever the disk tells. Where blocks were too few, it was for the Stable that the step owes,
    -- or for the Snap of an entity that it wrote
    pub record StopsBehind (me : ℕ) (old new : Parts D) (why : Stopped) : Type 0 where
      pub mid : Parts D
      pub entry : Entry
      pub stepped : HasStepped disks me old mid entry
      pub instr : Instr
      pub next : HasNext me old.cells instr
      pub leaves : LeavesStopped disks.faults (AreShortBehind disks policy (is_owing instr entry.answer) (written_in entry.touched) new) mid new why

    -- WHERE A LOOK STOPPED: at its step, or behind it
    abbrev pub StopsLook : ℕ → Parts D → Parts D → Stopped → Type 0
    StopsLook me old new why = StopsStep disks me old new why ⊎ StopsBehind me old new why

    -- WHETHER A LOOK STOPS: it does where its step is short of a block for a page, and then for this
    pub record StopsWhere (me : ℕ) (old new : Parts D) (stop : Option Stopped) : Type 0 where
      pub stopped : IfSome stop (StopsLook me old new)
      pub wanting : (n : NoBlocks) → WantsPage me old n → stop ≡ Some (reason.NoBlocks n)

    -- BLOCKS WERE TOO FEW where a kernel is left: for the Stable of births, or in a look at some locus
    abbrev pub WasShort : Parts D → NoBlocks → Type 0
    WasShort new n = AreShort new n ⊎ ((me : ℕ) × (old : Parts D) × StopsLook me old new (reason.NoBlocks n))

  -- THE LOOK WAS MADE, whatever the disk tells: its step, with this entry, and behind it what it owed or what was wished, with no Tried
  pub record LooksOnce (me : ℕ) (old new : Parts D) (e : Entry) : Type 0 where
    pub mid : Parts D
    pub stepped : HasStepped disks me old mid e
    pub behind : AddsNoTried mid.noted.entries new.noted.entries

  -- THE LOOK: the kernel goes on at rest, with its step and what comes behind it, or is live where it stopped
  pub record LooksInRun (b : Beginning) (policy : Policy) (me : ℕ) {T : Type 0} (result : Result T Stopped) (old new : Parts D) : Type 0 where
    pub stands : OnOk result (StandsAs disks b new)
    pub calm : OnOk result (IsCalm b new.noted.entries)
    pub entries : OnOk result (new.noted.entries ≡ old.noted.entries ++ look b.supply policy b.script (run_of b old.noted.entries) me)
    pub lives : IfErr result (λ why. LivesAs disks b new (Some why))
