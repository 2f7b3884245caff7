-- The image in which nothing is stored yet.
use Rattle.std.specs.Prelude.{◌≡◌, ℕ, true, false, length}
use Rattle.image_blocks.specs.edge_disk.Image.{Image, block_at}
use Rattle.image_blocks.specs.image_facts.Checks.{is_count}
use Rattle.image_blocks.specs.Layout.{gate_at, header_at, slot_gate_at}
use Rattle.image_blocks.specs.image_facts.Layout.{header_block, is_open, superblock}
use Rattle.image_blocks.specs.declared.areas.Area.TheVariants.{A, B}

-- AN IMAGE AS IT IS FORMATTED: a superblock of so many blocks, area A active with epoch 1, area B closed, and no record
pub record IsFormatted (count : ℕ) (image : Image) : Type 0 where
  pub size : is_count (length image) count ≡ true
  pub first : block_at image 0 ≡ superblock count
  pub epoch : block_at image (header_at A) ≡ header_block 1
  pub active : is_open image (gate_at A) ≡ true
  pub other : is_open image (gate_at B) ≡ false
  pub none : is_open image (slot_gate_at A 0) ≡ false
