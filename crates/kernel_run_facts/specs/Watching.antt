-- A run that is watched: what its watcher is shown, what it leaves of the kernel, and what the run leaves.
use Rattle.std.specs.Prelude.{◌≡◌, ◌⊎◌, ℕ, List, ◌++◌, Some, Ok, Err, Result, ⊤}
use Rattle.edge_disk.specs.declared.disk.Disk.{Ghosts}
use Rattle.edge_disk.specs.Counts.{Rose}
use Rattle.base_types.specs.declared.histories.Entry.{Entry}
use Rattle.script_types.specs.model_kernel.State.{Supply}
use Rattle.kernel_core.specs.model_serial_turns.Turns.{ComeFirst}
use Rattle.kernel_core.specs.kernel_invariant.Beginnings.{Beginning}
use Rattle.kernel_core.specs.kernel_commit_facts.Pieces.{CountsWithin}
use Rattle.kernel_core.specs.kernel_commits.declared.stopping.Stop.{Stop}
use Rattle.kernel_core.specs.kernel_invariant.declared.stopping.Stopped.{Stopped}
use Rattle.kernel_core.specs.kernel_invariant.declared.stopping.Stopped.TheVariants as reason
use Rattle.kernel_core.specs.kernel_core_facts.Kernels.{Held, Lives, StaysClean}
use Rattle.kernel_run_facts.specs.declared.halts.Halt.{Halt}
use Rattle.kernel_run_facts.specs.declared.halts.Halt.TheVariants as halt
use Rattle.kernel_run_facts.specs.Alongs.{ComesNext}
use Rattle.kernel_run_facts.specs.Running.{HasStopped, HasStoppedBehind, IsFrontOf, IsOver, IsOverBehind, RunsAlong, opened_in}

-- what the calls of the kernel answered: that the watcher halted the run is no fault of theirs
abbrev pub answer_of : Result ⊤ Halt → Result ⊤ Stop
answer_of (Ok y) = Ok y
answer_of (Err (halt.Kernel why)) = Err why
answer_of (Err halt.Watcher) = Ok tt

-- ONE PIECE MORE of a history: the births with their Stable, or a look at some locus
pub record IsNext (b : Beginning) (es new : List Entry) : Type 0 where
  pub all : List Entry
  pub next : ComesNext b es all
  pub is : new ≡ es ++ all

-- this was known behind a front of the history
pub record IsKnownBefore (watches : List Entry → Type 0) (es : List Entry) : Type 0 where
  pub seen : List Entry
  pub rest : List Entry
  pub same : es ≡ seen ++ rest
  pub knows : watches seen

module _ {D : Type 0} (disks : Ghosts D) where
  -- WHAT A WATCHER IS SHOWN behind these entries: a live kernel that has noted one piece more
  pub record Shows (b : Beginning) (es : List Entry) (k : Held D) : Type 0 where
    pub lives : Lives disks b k
    pub next : IsNext b es k.parts.noted.entries

  -- HOW A WATCHER GIVES THE KERNEL BACK: with its notes and cells, no write or sync begun, and no fault less; it is live in each run in which it was, its
  -- pages stay clean, and it has stopped for a read alone that failed meanwhile
  pub record IsAsLent (old new : Held D) : Type 0 where
    pub notes : new.parts.noted ≡ old.parts.noted
    pub cells : new.parts.cells ≡ old.parts.cells
    pub counts : CountsWithin disks 0 old.parts.store new.parts.store
    pub lives : disks.tells → (b : Beginning) → Lives disks b old → Lives disks b new
    pub clean : (s : Supply) → StaysClean disks s old → StaysClean disks s new
    pub stop : (why : Stopped) → new.stop ≡ Some why → (why ≡ reason.ReadFault) × Rose (disks.faults old.parts.store.disk) (disks.faults new.parts.store.disk)

-- where the watcher knows this behind each history
module _ {D : Type 0} (disks : Ghosts D) (watches : Beginning → List Entry → Type 0) where
  -- ALONG ITS COURSE, and the watcher with it
  pub record GoesAlong (b : Beginning) (looked : List ℕ) (k : Held D) : Type 0 where
    pub along : RunsAlong disks b looked k
    pub knows : watches b k.parts.noted.entries

  -- THE RUN IS OVER, and the watcher knows it
  pub record IsSeenOver (b : Beginning) (k : Held D) : Type 0 where
    pub over : IsOver disks b k
    pub knows : watches b k.parts.noted.entries

  -- THE RUN IS OVER where these loci are looked at first, and the watcher knows it
  pub record IsSeenOverBehind (b : Beginning) (first : List ℕ) (k : Held D) : Type 0 where
    pub over : IsOverBehind disks b first k
    pub knows : watches b k.parts.noted.entries

-- and this where it has halted the run
module _ {D : Type 0} (disks : Ghosts D) (watches leaves : Beginning → List Entry → Type 0) where
  -- WHERE SOME LOCI ARE LOOKED AT FIRST, and then all, round after round

  -- THE WATCHER HALTED IT: the kernel is behind the births and looks that begin the course, and goes on
  pub record WasLeftBehind (b : Beginning) (first : List ℕ) (k : Held D) : Type 0 where
    pub looked : List ℕ
    pub begins : IsFrontOf first looked
    pub along : RunsAlong disks b looked k
    pub knows : leaves b k.parts.noted.entries

  -- THE KERNEL WAS STOPPED, in the births or a look, or by its watcher's read; the watcher knows what it knew before, or what it knows where it halted the run
  pub record WasCutBehind (b : Beginning) (first : List ℕ) (k : Held D) : Type 0 where
    pub why : Stopped
    pub stop : k.stop ≡ Some why
    pub stopped : HasStoppedBehind disks b first why k
    pub knows : IsKnownBefore (watches b) k.parts.noted.entries ⊎ leaves b k.parts.noted.entries

  abbrev pub WasHaltedBehind : Beginning → List ℕ → Halt → Held D → Type 0
  WasHaltedBehind b first (halt.Kernel why) k = WasCutBehind b first k
  WasHaltedBehind b first halt.Watcher k = WasLeftBehind b first k

  -- WHAT WATCHED LOOKS LEAVE: the kernel behind them all, or the run was halted in them
  abbrev pub LooksLeave : Beginning → List ℕ → List ℕ → Result ⊤ Halt → Held D → Type 0
  LooksLeave b first looked (Ok y) k = GoesAlong disks watches b looked k
  LooksLeave b first looked (Err why) k = WasHaltedBehind b first why k

  -- WHAT ROUNDS LEAVE
  abbrev pub RoundsLeave : Beginning → List ℕ → Result ⊤ Halt → Held D → Type 0
  RoundsLeave b first (Ok y) k = IsSeenOverBehind disks watches b first k
  RoundsLeave b first (Err why) k = WasHaltedBehind b first why k

  -- IN THE SERIAL RUN, where the picks of the script's order are looked at first

  -- THE WATCHER HALTED IT: the kernel is behind the births and a look at each locus of a front of the course, and goes on
  pub record WasLeft (b : Beginning) (k : Held D) : Type 0 where
    pub looked : List ℕ
    pub first : ComeFirst b.script (opened_in b) looked
    pub along : RunsAlong disks b looked k
    pub knows : leaves b k.parts.noted.entries

  -- THE KERNEL WAS STOPPED, in the births or a look, or by its watcher's read; the watcher knows what it knew before, or what it knows where it halted the run
  pub record WasCut (b : Beginning) (k : Held D) : Type 0 where
    pub stopped : HasStopped disks b k
    pub knows : IsKnownBefore (watches b) k.parts.noted.entries ⊎ leaves b k.parts.noted.entries

  abbrev pub WasHalted : Beginning → Halt → Held D → Type 0
  WasHalted b (halt.Kernel why) k = WasCut b k
  WasHalted b halt.Watcher k = WasLeft b k

  -- WHAT THE RUN LEAVES
  abbrev pub RunLeaves : Beginning → Result ⊤ Halt → Held D → Type 0
  RunLeaves b (Ok y) k = IsSeenOver disks watches b k
  RunLeaves b (Err why) k = WasHalted b why k
