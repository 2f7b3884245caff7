-- A run of blocks as far as it is written and counted.
use Rattle.std.proofs.Common.{◌≡◌, ◌≤◌, ◌+◌, ℕ, List, length, take}
use Rattle.edge_disk.specs.declared.disk.Disk.{Ghosts}
use Rattle.edge_disk.specs.Image.{HasRun, IsInRun, SameOutside}
use Rattle.edge_disk.specs.Moments.{Quiet}
use Rattle.edge_tally.specs.Counts.{CountsOn}

-- what holds after the first i of the blocks
pub record RunSoFar {D : Type 0} (disks : Ghosts D)
    (at : ℕ) (run : List (List ℕ)) (i begun begun_now : ℕ) (old new : D) : Type 0 where
  pub count : disks.block_count new ≡ disks.block_count old
  pub few : begun_now ≤ begun + i
  pub counts : CountsOn (disks.clock old) (disks.clock new) begun begun_now
  pub later : disks.faults old ≤ disks.faults new
  pub has_run : disks.tells → HasRun at (take i run) (disks.reading new)
  pub same : disks.tells → SameOutside (IsInRun at (length run)) (disks.reading old) (disks.reading new)
  pub quiet : disks.tells → Quiet disks (IsInRun at (length run)) old new
