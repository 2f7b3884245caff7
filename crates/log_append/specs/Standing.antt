-- What a log of one area stands for on a disk.
use Rattle.std.specs.Prelude.{◌≡◌, ℕ, ◌+◌, Bool, true, false, List, length, Result, OnOk, OnErr, IsErrOf}
use Rattle.edge_disk.specs.declared.disk.Disk.{Ghosts}
use Rattle.edge_disk.specs.Image.{Image}
use Rattle.base_types.specs.declared.records.Rec.{Rec}
use Rattle.image_blocks.specs.Logs.{HasSlots}
use Rattle.image_blocks.specs.declared.areas.Area.{Area}
use Rattle.log_append.specs.declared.log.Log.{Log}
use Rattle.log_append.specs.declared.log.LogFault.{LogFault}
use Rattle.log_append.specs.declared.log.LogFault.TheVariants.{WriteFault}

-- WHAT A LOG SHOWS

-- its area, and how many of its slots are used
abbrev pub area_of : Log → Area
area_of log = log.area

abbrev pub used_of : Log → ℕ
used_of log = log.used

-- whether it is shut
abbrev pub has_failed : Log → Bool
has_failed log = log.failed

-- the disk's area reads as a log with these records, and so it does in each image that a stop now may leave
pub record Stands {D : Type 0} (disks : Ghosts D) (log : Log) (recs : List Rec) (disk : D) : Type 0 where
  pub used : length recs ≡ used_of log
  pub slots : HasSlots (area_of log) recs (disks.reading disk)
  pub left : (c : Image) → disks.may_leave disk c → HasSlots (area_of log) recs c

-- what an append leaves of the log itself: one slot more is used, or as many as before
pub record HasAppended {T : Type 0} (result : Result T LogFault) (old new : Log) : Type 0 where
  pub area : area_of new ≡ area_of old
  pub used : OnOk result (used_of new ≡ used_of old + 1)
  pub same_used : OnErr result (used_of new ≡ used_of old)
  pub working : OnOk result (has_failed new ≡ false)
  pub failed : IsErrOf result WriteFault → has_failed new ≡ true
