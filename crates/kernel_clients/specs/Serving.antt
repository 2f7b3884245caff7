-- A kernel that a runtime keeps its objects in.
use Rattle.std.specs.Prelude.{◌≡◌, ℕ, List, None}
use Rattle.edge_disk.specs.declared.disk.Disk.{Ghosts}
use Rattle.kernel_core.specs.kernel_core_facts.Kernels.{Held, Lives}
use Rattle.kernel_core.specs.kernel_invariant.Beginnings.{Beginning}
use Rattle.kernel_core.specs.model_serial_turns.Turns.{HasLooked}
use Rattle.kernel_runs.specs.kernel_run_facts.Running.{IsOverBehind}

-- THE KERNEL SERVES in this run: it is live, so that its history is legal and a stop at any moment leaves a cut that holds what was acknowledged;
-- and while it goes on its history is the script's births, with their Stable, and a look at each of these loci
pub record Serves {D : Type 0} (disks : Ghosts D) (b : Beginning) (looked : List ℕ) (k : Held D) : Type 0 where
  pub lives : Lives disks b k
  pub looks : k.stop ≡ None → HasLooked b.supply b.policy b.script b.state looked k.parts.noted.entries

-- TO ITS END: it is live; and where it goes on its history is the births, a look at each of these loci, and whole rounds over all, until all are idle
pub record ServesToEnd {D : Type 0} (disks : Ghosts D) (b : Beginning) (looked : List ℕ) (k : Held D) : Type 0 where
  pub lives : Lives disks b k
  pub over : k.stop ≡ None → IsOverBehind disks b looked k
