-- What comes behind a step: the Stable that it owes, or the Snaps of what it wrote.
use Rattle.std.specs.Prelude.{◌≡◌, ◌*◌, Bool, true, false, [], ◌∷◌, if◌then◌else◌, Some, None, IfErr, IsErrOf, OnErr, OnOk, Result, ⊤}
use Rattle.edge_disk.specs.declared.disk.Disk.{Ghosts}
use Rattle.edge_disk.specs.declared.disk.NoBlocks.{NoBlocks}
use Rattle.base_types.specs.declared.histories.Entry.{Entry}
use Rattle.base_types.specs.declared.histories.Event.TheVariants.{Stable}
use Rattle.kernel_core_facts.specs.table_births.model_kernel.Histories.{Policy, mark}
use Rattle.kernel_core_facts.specs.table_births.model_kernel.State.{Supply}
use Rattle.kernel_core_facts.specs.table_laws.Tables.{AreClean}
use Rattle.kernel_core_facts.specs.kernel_record_facts.Cells.{words_on}
use Rattle.kernel_core_facts.specs.kernel_invariant.Beginnings.{Beginning, run_of}
use Rattle.kernel_core_facts.specs.model_serial.Serial.{kept_behind, wished_snaps, written_in}
use Rattle.kernel_core_facts.specs.kernel_commit_facts.Lacking.{LacksIn}
use Rattle.kernel_core_facts.specs.kernel_commit_facts.Pieces.{CountsWithin, StopsIn}
use Rattle.kernel_core_facts.specs.kernel_commit_facts.Parts.{Parts}
use Rattle.kernel_core_facts.specs.kernel_commit_facts.Short.{AreShortBehind}
use Rattle.kernel_core_facts.specs.kernel_commit_facts.Snapping.{RunsFree}
use Rattle.kernel_core_facts.specs.kernel_commit_facts.Stabilising.{HasStabilised, OwesStable}
use Rattle.kernel_core_facts.specs.kernel_commit_facts.Steady.{IsSteady}
use Rattle.kernel_core_facts.specs.kernel_commits.Snapping.{SnapsAll}
use Rattle.kernel_core_facts.specs.kernel_commits.Stabilising.{Stabilises}
use Rattle.kernel_core_facts.specs.kernel_commits.Stops.{LeavesStopped}
use Rattle.kernel_core_facts.specs.kernel_commits.Telling.{CommitsNote}
use Rattle.kernel_core_facts.specs.kernel_invariant.declared.stopping.Stopped.{Stopped}
use Rattle.kernel_core_facts.specs.kernel_invariant.declared.stopping.Stopped.TheVariants as reason

module _ {D : Type 0} (disks : Ghosts D) (policy : Policy) where
  -- BEHIND A STEP with this entry, which owes a Stable or not: the Stable of its actor, or the Snaps of what it wrote whose wishes are open, as
  -- the serial kernel makes them
  pub record KeepsBehind (owes : Bool) (e : Entry) (result : Result ⊤ Stopped) (old new : Parts D) : Type 0 where
    pub steady : OnOk result (IsSteady disks new)
    pub stopped : IfErr result (LeavesStopped disks.faults (AreShortBehind disks policy owes (written_in e.touched) new) old new)
    pub notes : CommitsNote result old.noted.entries new.noted.entries
    pub stabilised : owes ≡ true → OnOk result (HasStabilised e.actor old new)
    pub stable : owes ≡ true → disks.tells → (b : Beginning) → OwesStable disks b e.actor old → Stabilises disks b result new
    pub snaps : owes ≡ false → disks.tells → (b : Beginning) → RunsFree disks b policy old → SnapsAll disks b policy (written_in e.touched) result old new
    pub stable_part : owes ≡ true → disks.tells → (b : Beginning) → OwesStable disks b e.actor old
        → OnErr result (StopsIn b (mark Stable e.actor 0 ∷ []) old.noted.entries new.noted.entries)
    pub snaps_part : owes ≡ false → disks.tells → (b : Beginning) → RunsFree disks b policy old
        → OnErr result (StopsIn b (wished_snaps b.supply policy b.script (run_of b old.noted.entries) (written_in e.touched)) old.noted.entries new.noted.entries)
    pub enough : disks.tells → (b : Beginning)
        → (owes ≡ true → OwesStable disks b e.actor old) → (owes ≡ false → RunsFree disks b policy old)
        → (n : NoBlocks) → IsErrOf result (reason.NoBlocks n)
        → LacksIn disks b n (kept_behind b.supply policy b.script (run_of b old.noted.entries) (written_in e.touched) (if owes then Some e.actor else None)) old.noted.entries new
    pub clean : disks.tells → (s : Supply) → AreClean s (words_on (disks.reading old.store.disk)) old.cells
        → OnOk result (AreClean s (words_on (disks.reading new.store.disk)) new.cells)
    pub counts : CountsWithin disks (64 * 1556) old.store new.store
