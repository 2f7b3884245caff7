-- What a run on threads leaves of its kernel.
use Rattle.std.specs.Prelude.{◌≡◌, ℕ, false, Bool, List, None, Some}
use Rattle.edge_disk.specs.declared.disk.Disk.{Ghosts}
use Rattle.kernel_runs.specs.kernel_core_facts.Kernels.{Held, Lives}
use Rattle.kernel_runs.specs.kernel_core_facts.store_facts.State.{books}
use Rattle.kernel_runs.specs.kernel_invariant.Beginnings.{Beginning}
use Rattle.kernel_runs.specs.kernel_invariant.declared.stopping.Stopped.{Stopped}
use Rattle.kernel_runs.specs.kernel_run_facts.Alongs.{IsAlong}
use Rattle.kernel_runs.specs.kernel_run_facts.Running.{HasStoppedBehind, IsOverBehind, RunsAlong}
use Rattle.thread_workers.specs.thread_desk.Desks.{FirstCounts}

module _ {D : Type 0} (disks : Ghosts D) where
  -- what is counted of a kernel: the faults of its disk, and the blocks of its image
  abbrev pub counts_of : Held D → FirstCounts
  counts_of k = record { faults = disks.faults k.parts.store.disk; blocks = (books k.parts.store).count }

  -- A RUN IS SPOKEN OF: the disk tells its content, and the kernel is along the run
  abbrev pub IsSpokenOf : Beginning → Held D → Type 0
  IsSpokenOf b k = disks.tells × Lives disks b k × IsAlong disks b k

  -- WHAT WORKERS LEAVE, in the run of SOME ORDER OF LOOKS, by whether there was want of memory. Where there was none, and the kernel goes on, the run is over:
  -- these looks were made, and behind them whole rounds until all loci were idle. Where the kernel has stopped, it was in the piece behind looks that begin
  -- such a run. While it goes on it is behind looks at some loci, also where there was want of memory
  pub record EndsInSomeOrder (b : Beginning) (lacked : Bool) (k : Held D) : Type 0 where
    pub over : lacked ≡ false → k.stop ≡ None → (first : List ℕ) × IsOverBehind disks b first k
    pub stopped : (why : Stopped) → k.stop ≡ Some why → (first : List ℕ) × HasStoppedBehind disks b first why k
    pub along : k.stop ≡ None → (looked : List ℕ) × RunsAlong disks b looked k
