-- Images that have a log, and the stages of an image while a record is appended or the log is turned.
use Rattle.std.specs.Prelude.{◌≡◌, ◌⊎◌, ℕ, ◌+◌, ◌<◌, ◌≤◌, true, false, List, [], ◌∷◌, ◌++◌, length, take, slice_get, Some, None}
use Rattle.edge_disk.specs.declared.disk.Disk.{Ghosts}
use Rattle.edge_disk.specs.Image.{Image, IsImage, SameOutside, block_at}
use Rattle.base_types.specs.declared.records.Rec.{Rec}
use Rattle.image_blocks.specs.Layout.{other, header_at, gate_at, body_at, slot_gate_at, epoch_in, IsOfArea}
use Rattle.image_facts.specs.Layout.{header_block, slot_count, is_open}
use Rattle.image_facts.specs.Bodies.{body_block}
use Rattle.image_blocks.specs.Checks.{active_area, check_1, log_in, records_fault}
use Rattle.image_facts.specs.Checks.{count_in, header_fault}
use Rattle.image_blocks.specs.declared.areas.Area.{Area}
use Rattle.image_facts.specs.Logs.{IsInRange, AreFitting}

-- ONE AREA

-- the area's log is these records, each in the block of its body, and the next gate is closed
pub record HasSlots (area : Area) (recs : List Rec) (image : Image) : Type 0 where
  pub few : length recs ≤ slot_count
  pub bodies : (i : ℕ) (r : Rec) → slice_get recs i ≡ Some r → block_at image (body_at area i) ≡ body_block r
  pub gates : (i : ℕ) → i < length recs → is_open image (slot_gate_at area i) ≡ true
  pub closed : length recs < slot_count → is_open image (slot_gate_at area (length recs)) ≡ false

-- BOTH AREAS

-- where a log stands
pub record Place : Type 0 where
  pub active : Area
  pub epoch : ℕ

-- this area is active with this epoch: its gate is open, and the other's is closed or its epoch is less
pub record IsActive (p : Place) (image : Image) : Type 0 where
  pub gate : is_open image (gate_at p.active) ≡ true
  pub epoch : epoch_in image p.active ≡ p.epoch
  pub above : is_open image (gate_at (other p.active)) ≡ true → epoch_in image (other p.active) < p.epoch

-- the log that the image stands for is these records, at this place
pub record HasLog (p : Place) (recs : List Rec) (image : Image) : Type 0 where
  pub active : IsActive p image
  pub slots : HasSlots p.active recs image

-- THE IMAGE HAS A LOG: checks 1 to 3 find nothing bad in it, and these are its records
pub record HasRecords (recs : List Rec) (image : Image) : Type 0 where
  pub good : records_fault image ≡ None
  pub area : Area
  pub active : active_area image ≡ Some area
  pub log : log_in image area ≡ recs

-- WHAT A STOP LEAVES OF AN APPEND

-- the blocks that an append of the record after so many others may write
abbrev pub IsNextSlot : Area → ℕ → ℕ → Type 0
IsNextSlot area used n = (n ≡ body_at area used) ⊎ (n ≡ slot_gate_at area used) ⊎ ((used + 1 < slot_count) × (n ≡ slot_gate_at area (used + 1)))

-- The old log still stands, in an image that could be left at the start, with any bytes in the next slot and gate.
pub record IsNotYet {D : Type 0} (may_leave : D → Image → Type 0) (area : Area) (recs : List Rec) (old : D) (c : Image) : Type 0 where
  pub from : Image
  pub could : may_leave old from
  pub same : SameOutside (IsNextSlot area (length recs)) from c
  pub slots : HasSlots area recs c

-- All that was written before the call is there, and the log has the new record.
pub record IsAdded (area : Area) (recs : List Rec) (rec : Rec) (reading : Image) (c : Image) : Type 0 where
  pub same : SameOutside (IsNextSlot area (length recs)) reading c
  pub slots : HasSlots area (recs ++ rec ∷ []) c

-- THE STAGES OF AN APPEND
abbrev pub IsAppending : {D : Type 0} → Ghosts D → Area → List Rec → Rec → D → Image → Type 0
IsAppending disks area recs rec old c = IsNotYet disks.may_leave area recs old c ⊎ IsAdded area recs rec (disks.reading old) c

-- WHAT A STOP LEAVES OF A TURN

-- the blocks that a turn from this area may write: the other area's, and the gate of its own
abbrev pub IsTurned : Area → ℕ → Type 0
IsTurned active n = IsOfArea (other active) n ⊎ (n ≡ gate_at active)

abbrev pub next_place : Place → Place
next_place p = record { active = other p.active; epoch = p.epoch + 1 }

-- the kept log, in the other area: its whole header is as it is written
pub record IsKeptLog (p : Place) (kept : List Rec) (c : Image) : Type 0 where
  pub log : HasLog (next_place p) kept c
  pub header : block_at c (header_at (other p.active)) ≡ header_block (p.epoch + 1)

-- THE STAGES OF A TURN: in an image that could be left at the start, the old log or the kept one, with any bytes in the other blocks of the areas
pub record IsTurning {D : Type 0} (may_leave : D → Image → Type 0) (p : Place) (recs kept : List Rec) (old : D) (c : Image) : Type 0 where
  pub from : Image
  pub could : may_leave old from
  pub same : SameOutside (IsTurned p.active) from c
  pub log : HasLog p recs c ⊎ IsKeptLog p kept c

-- the superblock and the header are good, so that only the log counts
pub record HasFront (count : ℕ) (p : Place) (image : Image) : Type 0 where
  pub first : check_1 image ≡ None
  pub count_is : count_in image ≡ count
  pub header : header_fault (block_at image (header_at p.active)) ≡ None

-- LAWS of logs, to be contracts

-- an image with a good front and a log of fitting records has these records
abbrev pub LogLaw : Type 0
LogLaw = (count : ℕ) (p : Place) (recs : List Rec) (image : Image) → HasFront count p image → HasLog p recs image → AreFitting count recs → HasRecords recs image

-- and the other way round: an image of whole blocks with records has them as the log of its active area
abbrev pub LogBackLaw : Type 0
LogBackLaw = (recs : List Rec) (blocks : ℕ) (image : Image) → IsImage blocks image → HasRecords recs image → (p : Place) × HasFront (count_in image) p image × HasLog p recs image × AreFitting (count_in image) recs

-- and each record of an image is in range behind those before it
abbrev pub InRangeLaw : Type 0
InRangeLaw = (recs : List Rec) (image : Image) → HasRecords recs image → (i : ℕ) (r : Rec) → slice_get recs i ≡ Some r → IsInRange (count_in image) (take i recs) r

-- the versions of an entity's records strictly ascend
abbrev pub AscendingLaw : Type 0
AscendingLaw = (recs : List Rec) (image : Image) → HasRecords recs image → (i k : ℕ) (r q : Rec) → k < i → slice_get recs k ≡ Some q → slice_get recs i ≡ Some r → q.entity ≡ r.entity → q.version < r.version

-- a body or a gate of the log, or the closed gate behind it
abbrev pub IsLogBlock : Area → ℕ → ℕ → Type 0
IsLogBlock area used n = (slot : ℕ) × (((slot < used) × (n ≡ body_at area slot)) ⊎ ((slot ≤ used) × (slot < slot_count) × (n ≡ slot_gate_at area slot)))

-- the blocks of headers and area gates that are looked at
abbrev pub IsAreaBlock : Image → Area → ℕ → Type 0
IsAreaBlock image area n = (n ≡ 2) ⊎ (n ≡ 4) ⊎ (n ≡ header_at area) ⊎ ((is_open image (gate_at (other area)) ≡ true) × (n ≡ header_at (other area)))

-- THE RECORDS OF AN IMAGE REST ON THIS BLOCK
abbrev pub RecordsRestOn : Image → Area → ℕ → ℕ → Type 0
RecordsRestOn image area used n = (n ≡ 0) ⊎ IsAreaBlock image area n ⊎ IsLogBlock area used n

-- THE RESTS-ON LAW of records: an image with as many blocks that agrees there has the same records
abbrev pub RecordsRestLaw : Type 0
RecordsRestLaw = (recs : List Rec) (image c : Image) (h : HasRecords recs image) → length c ≡ length image
    → ((n : ℕ) → RecordsRestOn image h.area (length recs) n → block_at c n ≡ block_at image n) → (g : HasRecords recs c) × (g.area ≡ h.area)
