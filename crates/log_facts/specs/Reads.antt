-- What calls leave that only read a disk.
use Rattle.std.specs.Prelude.{◌≡◌, ◌≤◌}
use Rattle.edge_tally.specs.edge_disk.Disks.{TimePasses}
use Rattle.edge_tally.specs.edge_disk.declared.disk.Disk.{Ghosts}
use Rattle.edge_tally.specs.edge_disk.Disk.{LeavesNoMore}

-- no write and no sync was begun: what is read is as before, and a stop may leave nothing new
pub record ReadsOnly {D : Type 0} (disks : Ghosts D) (old new : D) : Type 0 where
  pub same_count : disks.block_count new ≡ disks.block_count old
  pub same_clock : disks.clock new ≡ disks.clock old
  pub later : disks.faults old ≤ disks.faults new
  pub same_reading : disks.tells → disks.reading new ≡ disks.reading old
  pub stop : disks.tells → LeavesNoMore disks.may_leave old new
  pub time : disks.tells → TimePasses disks old new
