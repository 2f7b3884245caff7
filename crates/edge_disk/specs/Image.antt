-- The blocks of a disk as a list of lists of bytes.
use Rattle.std.specs.Prelude.{◌≡◌, ◌≤◌, ◌<◌, ℕ, ◌+◌, List, [], length, slice_index, slice_index_or}

-- the blocks of a disk, by their numbers
abbrev pub Image : Type 0
Image = List (List ℕ)

-- the block of this number
abbrev pub block_at : Image → ℕ → List ℕ
block_at image n = slice_index_or image n []

-- 1,024 bytes
pub record IsBlock (block : List ℕ) : Type 0 where
  pub len : length block ≡ 1024
  pub byte : (i : ℕ) → slice_index block i < 256

-- so many blocks
pub record IsImage (count : ℕ) (image : Image) : Type 0 where
  pub len : length image ≡ count
  pub block : (n : ℕ) → n < count → IsBlock (block_at image n)

-- as many blocks, and the same ones but for these
pub record SameOutside (these : ℕ → Type 0) (old new : Image) : Type 0 where
  pub len : length new ≡ length old
  pub same : (n : ℕ) → (these n → ⊥) → block_at new n ≡ block_at old n

-- one of so many blocks from a place on
abbrev pub IsInRun : ℕ → ℕ → ℕ → Type 0
IsInRun at count n = (at ≤ n) × (n < at + count)

-- these blocks stand from a place on
abbrev pub HasRun : ℕ → List (List ℕ) → Image → Type 0
HasRun at run image = (i : ℕ) → i < length run → block_at image (at + i) ≡ block_at run i
