-- A run of blocks as far as it is written.
use Rattle.std.proofs.Common.{◌≡◌, ◌≤◌, ◌+◌, ℕ, List, length, take}
use Rattle.edge_disk.specs.declared.disk.Disk.{Ghosts}
use Rattle.edge_disk.specs.Image.{HasRun, IsInRun, SameOutside}
use Rattle.edge_disk.specs.Disk.{Began}
use Rattle.edge_disk.specs.Moments.{Quiet}

-- what holds after the first i of the blocks
pub record RunSoFar {D : Type 0} (disks : Ghosts D) (at : ℕ) (run : List (List ℕ)) (i : ℕ) (old new : D) : Type 0 where
  pub count : disks.block_count new ≡ disks.block_count old
  pub time : disks.clock new ≤ disks.clock old + i
  pub began : Began i (disks.clock old) (disks.clock new)
  pub later : disks.faults old ≤ disks.faults new
  pub has_run : disks.tells → HasRun at (take i run) (disks.reading new)
  pub same : disks.tells → SameOutside (IsInRun at (length run)) (disks.reading old) (disks.reading new)
  pub quiet : disks.tells → Quiet disks (IsInRun at (length run)) old new
