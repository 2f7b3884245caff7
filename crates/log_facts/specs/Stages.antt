-- The blocks that the parts of a turn write, and what stands in the new area.
use Rattle.std.specs.Prelude.{◌≡◌, ◌⊎◌, ℕ, ◌<◌, true, List, [], ◌∷◌, ◌++◌, slice_get, Some, length}
use Rattle.edge_tally.specs.edge_disk.declared.disk.Disk.{Ghosts}
use Rattle.edge_tally.specs.edge_disk.Image.{Image, IsInRun, SameOutside, block_at}
use Rattle.image_blocks.specs.base_types.declared.records.Rec.{Rec}
use Rattle.image_blocks.specs.image_facts.Bodies.{body_block}
use Rattle.image_blocks.specs.Layout.{body_at, gate_at, header_at, other, slot_gate_at, slots_at}
use Rattle.image_blocks.specs.image_facts.Layout.{closed_gate, is_open, open_gate, slot_blocks, slot_count}
use Rattle.image_blocks.specs.Logs.{HasLog, IsNextSlot, Place}
use Rattle.image_blocks.specs.declared.areas.Area.{Area}

-- the gate of an area, where it reads open in the image
abbrev pub IsClosing : Image → Area → ℕ → Type 0
IsClosing image area n = (n ≡ gate_at area) × (is_open image (gate_at area) ≡ true)

-- a block of an area, its gate aside
abbrev pub IsBehindGate : Area → ℕ → Type 0
IsBehindGate area n = (n ≡ header_at area) ⊎ IsInRun (slots_at area) slot_blocks n

-- the body of a slot, and its gate
abbrev pub IsOfSlot : Area → ℕ → ℕ → Type 0
IsOfSlot area slot n = (n ≡ body_at area slot) ⊎ (n ≡ slot_gate_at area slot)

-- the gate of a slot, where there is such a slot
abbrev pub IsGateOf : Area → ℕ → ℕ → Type 0
IsGateOf area slot n = (slot < slot_count) × (n ≡ slot_gate_at area slot)

-- the area's first slots are these records, and their gates are written open
pub record HasFilled (area : Area) (recs : List Rec) (image : Image) : Type 0 where
  pub bodies : (i : ℕ) (r : Rec) → slice_get recs i ≡ Some r → block_at image (body_at area i) ≡ body_block r
  pub gates : (i : ℕ) → i < length recs → block_at image (slot_gate_at area i) ≡ open_gate

-- the gates of the area's first slots are written open, and the one behind them, where there is one, closed
pub record HasSlotGates (area : Area) (used : ℕ) (image : Image) : Type 0 where
  pub opened : (i : ℕ) → i < used → block_at image (slot_gate_at area i) ≡ open_gate
  pub closed : used < slot_count → block_at image (slot_gate_at area used) ≡ closed_gate

-- WHAT A STOP LEAVES OF AN APPEND, with the log's place

-- the old log, in an image that could be left at the start, with any bytes in the next slot and gate
pub record WasLogged {D : Type 0} (may_leave : D → Image → Type 0) (p : Place) (recs : List Rec) (old : D) (c : Image) : Type 0 where
  pub from : Image
  pub could : may_leave old from
  pub same : SameOutside (IsNextSlot p.active (length recs)) from c
  pub log : HasLog p recs c

-- all that was written before the call is there, and the log has the new record
pub record IsLogged (p : Place) (recs : List Rec) (rec : Rec) (reading : Image) (c : Image) : Type 0 where
  pub same : SameOutside (IsNextSlot p.active (length recs)) reading c
  pub log : HasLog p (recs ++ rec ∷ []) c

abbrev pub IsLogging : {D : Type 0} → Ghosts D → Place → List Rec → Rec → D → Image → Type 0
IsLogging disks p recs rec old c = WasLogged disks.may_leave p recs old c ⊎ IsLogged p recs rec (disks.reading old) c

-- WHAT A STOP LEAVES OF A SWITCH of the area gates, from this area

abbrev pub IsEitherGate : Area → ℕ → Type 0
IsEitherGate active n = (n ≡ gate_at (other active)) ⊎ (n ≡ gate_at active)

-- what read before, with any bytes in the other area's gate; or, with that gate open, any bytes in both
abbrev pub IsSwitching : Area → Image → Image → Type 0
IsSwitching active reading c =
    SameOutside (λ n. n ≡ gate_at (other active)) reading c ⊎ (SameOutside (IsEitherGate active) reading c × (is_open c (gate_at (other active)) ≡ true))
