-- What Snaps by wishes come to over lent cells: all that the calls of a kernel that owns its cells promise, over the parts that are known of it.
use Rattle.std.specs.Prelude.{◌≡◌, ◌↔◌, ◌*◌, ◌++◌, ℕ, Bool, true, false, List, [], All, Ok, IfErr, IsErrOf, OnErr, OnOk, Result, ⊤}
use Rattle.edge_disk.specs.declared.disk.Disk.{Ghosts}
use Rattle.edge_disk.specs.declared.disk.NoBlocks.{NoBlocks}
use Rattle.base_types.specs.declared.histories.Entry.{Entry}
use Rattle.thread_history.specs.Rules.{is_among}
use Rattle.kernel_commit_facts.specs.model_kernel.Histories.{Policy, writes}
use Rattle.kernel_commit_facts.specs.model_kernel.State.{Supply}
use Rattle.kernel_commit_facts.specs.model_serial.Serial.{wished_snap, wished_snaps}
use Rattle.kernel_commit_facts.specs.table_laws.Tables.{AreClean}
use Rattle.kernel_commit_facts.specs.kernel_record_facts.Cells.{words_on}
use Rattle.kernel_commit_facts.specs.kernel_invariant.Beginnings.{Beginning, run_of}
use Rattle.kernel_commit_facts.specs.kernel_invariant.declared.stopping.Stopped.{Stopped}
use Rattle.kernel_commit_facts.specs.kernel_invariant.declared.stopping.Stopped.TheVariants as reason
use Rattle.kernel_commit_facts.specs.kernel_records.Committing.{CommitCounts}
use Rattle.kernel_commit_facts.specs.Lacking.{LacksIn}
use Rattle.kernel_commit_facts.specs.Parts.{Parts}
use Rattle.kernel_commit_facts.specs.Pieces.{CountsWithin, StopsIn}
use Rattle.kernel_commit_facts.specs.Recording.{HasRecorded}
use Rattle.kernel_commit_facts.specs.Short.{AreSnapsShort, IsSnapShort}
use Rattle.kernel_commit_facts.specs.Snapping.{RunsFree, Snaps}
use Rattle.kernel_commit_facts.specs.Steady.{IsSteady}
use Rattle.kernel_commits.specs.Recording.{Fails}
use Rattle.kernel_commits.specs.Snapping.{SnapsAll, SnapsOne}
use Rattle.kernel_commits.specs.Stops.{LeavesStopped}
use Rattle.kernel_commits.specs.Telling.{CommitsNote}

-- a step writes none but these
abbrev pub WritesAmong : Entry → List ℕ → Type 0
WritesAmong e xs = (x : ℕ) → writes e x ≡ true → is_among x xs ≡ true

-- WHAT IS NOTED BEHIND the old history writes none but these. A mark, as a Snap's, writes none
pub record AddsAmong (xs : List ℕ) (old new : List Entry) : Type 0 where
  pub part : List Entry
  pub entries : new ≡ old ++ part
  pub among : All (λ (e : Entry). WritesAmong e xs) part

module _ {D : Type 0} (disks : Ghosts D) (policy : Policy) where
  -- THE SNAP OF ONE ENTITY: exactly where one is wished and the entity isn't full, the record is made
  pub record SnapsWished (x : ℕ) (result : Result Bool Stopped) (old new : Parts D) : Type 0 where
    pub steady : OnOk result (IsSteady disks new)
    pub made : Snaps policy x old true → OnOk result ((result ≡ Ok true) × HasRecorded disks x old new)
    pub none : Snaps policy x old false → (result ≡ Ok false) × (new ≡ old)
    pub no_blocks : (n : NoBlocks) → IsErrOf result (reason.NoBlocks n) ↔ IsSnapShort disks policy x old n
    pub fails : Fails disks x result old new
    pub notes : CommitsNote result old.noted.entries new.noted.entries
    pub adds : AddsAmong [] old.noted.entries new.noted.entries
    pub run : disks.tells → (b : Beginning) → RunsFree disks b policy old → SnapsOne disks b policy x result old new
    pub part : disks.tells → (b : Beginning) → RunsFree disks b policy old
        → OnErr result (StopsIn b (wished_snap policy (run_of b old.noted.entries) x) old.noted.entries new.noted.entries)
    pub clean : disks.tells → (s : Supply) → AreClean s (words_on (disks.reading old.store.disk)) old.cells
        → OnOk result (AreClean s (words_on (disks.reading new.store.disk)) new.cells)
    pub enough : disks.tells → (b : Beginning) → RunsFree disks b policy old
        → (n : NoBlocks) → IsErrOf result (reason.NoBlocks n) → LacksIn disks b n (wished_snap policy (run_of b old.noted.entries) x) old.noted.entries new
    pub counts : CommitCounts disks old.store new.store

  -- THE SNAPS OF THESE, which a step wrote, in ascending number: exactly those of the serial history. A record for each of 64 at most
  pub record SnapsWritten (xs : List ℕ) (result : Result ⊤ Stopped) (old new : Parts D) : Type 0 where
    pub steady : OnOk result (IsSteady disks new)
    pub run : disks.tells → (b : Beginning) → RunsFree disks b policy old → SnapsAll disks b policy xs result old new
    pub part : disks.tells → (b : Beginning) → RunsFree disks b policy old
        → OnErr result (StopsIn b (wished_snaps b.supply policy b.script (run_of b old.noted.entries) xs) old.noted.entries new.noted.entries)
    pub enough : disks.tells → (b : Beginning) → RunsFree disks b policy old
        → (n : NoBlocks) → IsErrOf result (reason.NoBlocks n)
        → LacksIn disks b n (wished_snaps b.supply policy b.script (run_of b old.noted.entries) xs) old.noted.entries new
    pub stopped : IfErr result (LeavesStopped disks.faults (AreSnapsShort disks policy xs new) old new)
    pub notes : CommitsNote result old.noted.entries new.noted.entries
    pub adds : AddsAmong [] old.noted.entries new.noted.entries
    pub clean : disks.tells → (s : Supply) → AreClean s (words_on (disks.reading old.store.disk)) old.cells
        → OnOk result (AreClean s (words_on (disks.reading new.store.disk)) new.cells)
    pub counts : CountsWithin disks (64 * 1556) old.store new.store
