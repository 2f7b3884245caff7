-- What the records of a Stable, and the Stable, come to over lent cells: all that the calls of a kernel that owns its cells promise, over the
-- parts that are known of it.
use Rattle.std.specs.Prelude.{◌≡◌, ◌↔◌, ◌*◌, ℕ, [], ◌∷◌, Some, IfErr, IsErrOf, OnErr, OnOk, Result, ⊤}
use Rattle.edge_disk.specs.declared.disk.Disk.{Ghosts}
use Rattle.edge_disk.specs.declared.disk.NoBlocks.{NoBlocks}
use Rattle.base_types.specs.declared.histories.Event.TheVariants.{Stable}
use Rattle.thread_commits.specs.kernel_commit_facts.kernel_invariant.Beginnings.{Beginning}
use Rattle.thread_commits.specs.kernel_commit_facts.kernel_invariant.declared.stopping.Stopped.{Stopped}
use Rattle.thread_commits.specs.kernel_commit_facts.kernel_invariant.declared.stopping.Stopped.TheVariants as reason
use Rattle.thread_commits.specs.kernel_commit_facts.kernel_record_facts.Cells.{words_on}
use Rattle.thread_commits.specs.kernel_commit_facts.model_kernel.Histories.{mark}
use Rattle.thread_commits.specs.kernel_commit_facts.model_kernel.State.{Supply}
use Rattle.thread_commits.specs.kernel_commit_facts.table_laws.Tables.{AreClean}
use Rattle.thread_commits.specs.kernel_commit_facts.Lacking.{LacksIn}
use Rattle.thread_commits.specs.kernel_commit_facts.Parts.{LivesAs, Parts}
use Rattle.thread_commits.specs.kernel_commit_facts.Pieces.{CountsWithin, StopsIn}
use Rattle.thread_commits.specs.kernel_commit_facts.Stabilising.{AreShort, HasStabilised, OwesStable}
use Rattle.thread_commits.specs.kernel_commit_facts.Steady.{IsSteady}
use Rattle.thread_commits.specs.kernel_commit_facts.Through.{GoesThrough, RunsThrough}
use Rattle.thread_commits.specs.kernel_commits.Stabilising.{Stabilises}
use Rattle.thread_commits.specs.kernel_commits.Stops.{LeavesStopped}
use Rattle.thread_commits.specs.kernel_commits.Telling.{CommitsNote}
use Rattle.thread_commits.specs.Snapping.{AddsAmong}

module _ {D : Type 0} (disks : Ghosts D) where
  -- A RECORD OF EACH CHANGED CELL, in ascending number, each with its Snap
  pub record RecordsChanged (result : Result ⊤ Stopped) (old new : Parts D) : Type 0 where
    pub through : OnOk result (GoesThrough disks 64 old new)
    pub run : disks.tells → (b : Beginning) (actor : ℕ) → OwesStable disks b actor old → OnOk result (RunsThrough disks b actor 64 old new)
    pub lives : disks.tells → (b : Beginning) (actor : ℕ) → OwesStable disks b actor old → IfErr result (λ why. LivesAs disks b new (Some why))
    pub part : disks.tells → (b : Beginning) (actor : ℕ) → OwesStable disks b actor old → OnErr result (StopsIn b (mark Stable actor 0 ∷ []) old.noted.entries new.noted.entries)
    pub no_blocks : (n : NoBlocks) → IsErrOf result (reason.NoBlocks n) ↔ AreShort old n
    pub untouched : (n : NoBlocks) → IsErrOf result (reason.NoBlocks n) → new ≡ old
    pub no_read : IsErrOf result reason.ReadFault → ⊥
    pub stopped : IfErr result (LeavesStopped disks.faults (AreShort new) old new)
    -- marks alone, wherever it stops
    pub adds : AddsAmong [] old.noted.entries new.noted.entries
    pub counts : CountsWithin disks (64 * 1556) old.store new.store

  -- THE STABLE OF THE ACTOR: exactly where enough blocks are free for all of them, each changed entity's record is made, and one entry with its
  -- mark stands in the place of their Snaps
  pub record Settles (actor : ℕ) (result : Result ⊤ Stopped) (old new : Parts D) : Type 0 where
    pub stabilised : OnOk result (HasStabilised actor old new)
    pub steady : OnOk result (IsSteady disks new)
    pub run : disks.tells → (b : Beginning) → OwesStable disks b actor old → Stabilises disks b result new
    pub part : disks.tells → (b : Beginning) → OwesStable disks b actor old → OnErr result (StopsIn b (mark Stable actor 0 ∷ []) old.noted.entries new.noted.entries)
    pub no_blocks : (n : NoBlocks) → IsErrOf result (reason.NoBlocks n) ↔ AreShort old n
    pub untouched : (n : NoBlocks) → IsErrOf result (reason.NoBlocks n) → new ≡ old
    pub enough : disks.tells → (b : Beginning) → OwesStable disks b actor old
        → (n : NoBlocks) → IsErrOf result (reason.NoBlocks n) → LacksIn disks b n (mark Stable actor 0 ∷ []) old.noted.entries new
    pub stopped : IfErr result (LeavesStopped disks.faults (AreShort new) old new)
    pub notes : CommitsNote result old.noted.entries new.noted.entries
    pub adds : AddsAmong [] old.noted.entries new.noted.entries
    pub clean : disks.tells → (s : Supply) → AreClean s (words_on (disks.reading old.store.disk)) old.cells
        → OnOk result (AreClean s (words_on (disks.reading new.store.disk)) new.cells)
    pub counts : CountsWithin disks (64 * 1556) old.store new.store
