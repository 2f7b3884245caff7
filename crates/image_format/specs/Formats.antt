-- The empty image while it is made.
use Rattle.std.specs.Prelude.{◌≡◌, ◌≢◌, ◌<◌, ◌⊎◌, ℕ, false}
use Rattle.edge_disk.specs.Image.{Image, SameOutside, block_at}
use Rattle.edge_disk.specs.Moments.{WasLeft}
use Rattle.image_blocks.specs.image_facts.Layout.{closed_gate, header_block, is_open, superblock}
use Rattle.image_blocks.specs.Layout.{gate_at, header_at, slot_gate_at}
use Rattle.image_blocks.specs.declared.areas.Area.TheVariants.{A, B}
use Rattle.image_meaning.specs.Empty.{IsFormatted}

-- the gate of an area
abbrev pub IsAreaGate : ℕ → Type 0
IsAreaGate n = (n ≡ gate_at A) ⊎ (n ≡ gate_at B)

-- the superblock, a header, or the gate of area A's first slot
abbrev pub IsFrontBlock : ℕ → Type 0
IsFrontBlock n = (n ≡ 0) ⊎ (n ≡ header_at A) ⊎ (n ≡ header_at B) ⊎ (n ≡ slot_gate_at A 0)

-- no area is open
pub record IsClosed (image : Image) : Type 0 where
  pub a : is_open image (gate_at A) ≡ false
  pub b : is_open image (gate_at B) ≡ false

-- the superblock of so many blocks, epochs 1 and 0, and no record in area A
pub record HasEmptyFront (count : ℕ) (image : Image) : Type 0 where
  pub first : block_at image 0 ≡ superblock count
  pub epoch : block_at image (header_at A) ≡ header_block 1
  pub other : block_at image (header_at B) ≡ header_block 0
  pub none : block_at image (slot_gate_at A 0) ≡ closed_gate

-- AN EMPTY IMAGE OF SO MANY BLOCKS WAS MADE: that front, area A open, area B closed, and every other block as it was
pub record IsMade (count : ℕ) (old new : Image) : Type 0 where
  pub formatted : IsFormatted count new
  pub front : HasEmptyFront count new
  pub others : SameOutside (λ n. IsAreaGate n ⊎ IsFrontBlock n) old new

-- WHAT A STOP LEAVES: what it could leave at the start, with any bytes in the gates of the areas; an image with no open area, which
-- is not accepted; or an empty image
abbrev pub IsFormatting : {D : Type 0} → (D → Image → Type 0) → ℕ → D → Image → Type 0
IsFormatting may_leave count old c = WasLeft may_leave IsAreaGate old c ⊎ IsClosed c ⊎ IsFormatted count c
