-- Words over the ghost members of a disk's type as one record.
use Rattle.edge_disk.specs.declared.disk.Disk.{Ghosts}
use Rattle.edge_disk.specs.Counts.{Rose}
use Rattle.edge_disk.specs.Disk.{Elapses, Only}

-- time goes on from the one to the other, as `Elapses` says
abbrev pub TimePasses : {D : Type 0} → Ghosts D → D → D → Type 0
TimePasses disks old new = Elapses disks.clock disks.may_leave disks.left_since old new

-- a stop of the second leaves what was read of the first, and nothing else
abbrev pub LeavesRead : {D : Type 0} → Ghosts D → D → D → Type 0
LeavesRead disks old new = Only (disks.reading old) (disks.may_leave new)

-- a stop leaves what is read
abbrev pub IsStable : {D : Type 0} → Ghosts D → D → Type 0
IsStable disks disk = Only (disks.reading disk) (disks.may_leave disk)

-- a call failed from the one to the other
abbrev pub HasFailedSince : {D : Type 0} → Ghosts D → D → D → Type 0
HasFailedSince disks old new = Rose (disks.faults old) (disks.faults new)
