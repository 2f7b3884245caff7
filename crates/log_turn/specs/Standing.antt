-- What the two areas stand for on a disk.
use Rattle.std.specs.Prelude.{◌≡◌, ℕ, ◌+◌, Bool, true, false, List, length, Result, OnOk, OnErr, IsErrOf}
use Rattle.edge_disk.specs.declared.disk.Disk.{Ghosts}
use Rattle.edge_disk.specs.Image.{Image, block_at}
use Rattle.base_types.specs.declared.records.Rec.{Rec}
use Rattle.log_append.specs.image_facts.Layout.{closed_gate, header_block, open_gate}
use Rattle.log_append.specs.image_blocks.Layout.{gate_at, header_at, other}
use Rattle.log_append.specs.image_blocks.Logs.{HasLog, Place}
use Rattle.log_append.specs.image_blocks.declared.areas.Area.{Area}
use Rattle.log_append.specs.Standing.{area_of as log_area, has_failed as log_failed, used_of as log_used}
use Rattle.log_append.specs.declared.log.LogFault.{LogFault}
use Rattle.log_append.specs.declared.log.LogFault.TheVariants.{WriteFault}
use Rattle.log_append.specs.log_facts.Stages.{HasSlotGates}
use Rattle.log_turn.specs.declared.areas.Areas.{Areas}
use Rattle.log_append.specs.log_facts.Areas.{SameAreas}

-- WHAT THE AREAS SHOW

-- the active area, its epoch, and how many of its slots are used
abbrev pub area_of : Areas → Area
area_of areas = log_area areas.log

abbrev pub epoch_of : Areas → ℕ
epoch_of areas = areas.epoch

abbrev pub used_of : Areas → ℕ
used_of areas = log_used areas.log

-- whether a call has answered WriteFault
abbrev pub has_failed : Areas → Bool
has_failed areas = log_failed areas.log

-- how many writes and syncs were begun
abbrev pub begun_of : Areas → ℕ
begun_of areas = areas.tally.0

abbrev pub place_of : Areas → Place
place_of areas = record { active = area_of areas; epoch = areas.epoch }

-- the disk reads as a log with these records, and each image that a stop now may leave agrees with that in headers, gates and log
pub record Stands {D : Type 0} (disks : Ghosts D) (areas : Areas) (recs : List Rec) (disk : D) : Type 0 where
  pub used : length recs ≡ used_of areas
  pub log : HasLog (place_of areas) recs (disks.reading disk)
  pub left : (c : Image) → disks.may_leave disk c → HasLog (place_of areas) recs c × SameAreas (disks.reading disk) c

-- WHAT CALLS LEAVE

-- after a turn the areas stand with the kept records, behind a whole header with the next epoch; the gates of the kept slots and the new area's are written open, and the gate behind the slots and the old area's closed
pub record IsTurnedTo {D : Type 0} (disks : Ghosts D) (kept : List Rec) (old new : Areas) (disk : D) : Type 0 where
  pub stands : Stands disks new kept disk
  pub header : block_at (disks.reading disk) (header_at (other (area_of old))) ≡ header_block (epoch_of old + 1)
  pub opened : block_at (disks.reading disk) (gate_at (other (area_of old))) ≡ open_gate
  pub closed : block_at (disks.reading disk) (gate_at (area_of old)) ≡ closed_gate
  pub slot_gates : HasSlotGates (other (area_of old)) (length kept) (disks.reading disk)

-- of the areas themselves: the other one is active with the next epoch and so many slots used, or all that is as before
pub record HasTurned {T : Type 0} (kept : ℕ) (result : Result T LogFault) (old new : Areas) : Type 0 where
  pub area : OnOk result (area_of new ≡ other (area_of old))
  pub epoch : OnOk result (epoch_of new ≡ epoch_of old + 1)
  pub used : OnOk result (used_of new ≡ kept)
  pub working : OnOk result (has_failed new ≡ false)
  pub same_area : OnErr result (area_of new ≡ area_of old)
  pub same_epoch : OnErr result (epoch_of new ≡ epoch_of old)
  pub same_used : OnErr result (used_of new ≡ used_of old)
  pub failed : IsErrOf result WriteFault → has_failed new ≡ true

-- after an append one slot more is used, or as many as before
pub record HasGrown {T : Type 0} (result : Result T LogFault) (old new : Areas) : Type 0 where
  pub area : area_of new ≡ area_of old
  pub epoch : epoch_of new ≡ epoch_of old
  pub used : OnOk result (used_of new ≡ used_of old + 1)
  pub same_used : OnErr result (used_of new ≡ used_of old)
  pub working : OnOk result (has_failed new ≡ false)
  pub failed : IsErrOf result WriteFault → has_failed new ≡ true

-- only the count of writes and syncs may be another
pub record HasCounted (old new : Areas) : Type 0 where
  pub same_place : place_of new ≡ place_of old
  pub same_used : used_of new ≡ used_of old
  pub same_failed : has_failed new ≡ has_failed old
