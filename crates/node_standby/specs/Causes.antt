-- Why a standby was not opened.
use Rattle.std.specs.Prelude.{◌≡◌, ℕ, ◌<◌, [], List, Some, length}
use Rattle.edge_disk.specs.Counts.{Rose}
use Rattle.edge_disk.specs.declared.disk.Disk.{Ghosts}
use Rattle.edge_disk.specs.Image.{Image}
use Rattle.base_types.specs.declared.records.Rec.{Rec}
use Rattle.kernel_views.specs.store_snapshots.declared.opening.OpenWhy.{OpenWhy}
use Rattle.kernel_views.specs.store_snapshots.declared.opening.OpenWhy.TheVariants as opening
use Rattle.kernel_views.specs.store_snapshots.store_facts.image_blocks.Checks.{records_fault}
use Rattle.kernel_views.specs.store_snapshots.store_facts.image_blocks.Logs.{HasRecords}
use Rattle.node_standby.specs.declared.faults.StandbyWhy.{StandbyWhy}
use Rattle.node_standby.specs.declared.faults.StandbyWhy.TheVariants.{Foreign, Memory, NotEmpty, ReadFault, WriteFault}

-- the checks find nothing bad, and the log has no record
abbrev pub IsEmptyImage : Image → Type 0
IsEmptyImage image = HasRecords [] image

-- the log has so many records, one at least
pub record HasUsed (used : ℕ) (image : Image) : Type 0 where
  pub recs : List Rec
  pub has : HasRecords recs image
  pub many : length recs ≡ used
  pub some : 0 < used

-- a bad place is the first one of the image, which else has as many records as were told; a read or the sync failed only where the count of faults
-- rose
abbrev pub HasStandbyCause : Type 0 → Image → ℕ → ℕ → StandbyWhy → Type 0
HasStandbyCause tells image before now (Foreign bad) = tells → records_fault image ≡ Some bad
HasStandbyCause tells image before now (NotEmpty used) = tells → HasUsed used image
HasStandbyCause tells image before now ReadFault = Rose before now
HasStandbyCause tells image before now WriteFault = Rose before now
HasStandbyCause tells image before now Memory = Unit {0}

-- of a disk before the reads and behind them
abbrev pub HasStandbyCauseIn : {D : Type 0} → Ghosts D → D → D → StandbyWhy → Type 0
HasStandbyCauseIn disks old new = HasStandbyCause disks.tells (disks.reading old) (disks.faults old) (disks.faults new)

-- why, where the log could not be read
abbrev pub why_of : OpenWhy → StandbyWhy
why_of (opening.Foreign bad) = Foreign bad
why_of opening.ReadFault = ReadFault
why_of opening.WriteFault = WriteFault
why_of opening.Memory = Memory
