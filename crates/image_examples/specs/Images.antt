-- Whole images, worked out by hand: what their records are refused for, and one whose chosen record doesn't fit.
use Rattle.std.specs.Prelude.{◌≡◌, ◌-◌, ℕ, List, [], ◌∷◌, ◌++◌, length, replicate, slice_set, Some, None}
use Rattle.edge_disk.specs.Image.{Image}
use Rattle.base_types.specs.declared.records.Rec.{Rec}
use Rattle.image_meaning.specs.image_facts.Bodies.{body_block}
use Rattle.image_meaning.specs.image_blocks.Checks.{records_fault}
use Rattle.image_meaning.specs.image_facts.Layout.{header_block, open_gate, superblock}
use Rattle.image_meaning.specs.Foreign.{IsForeign}
use Rattle.image_examples.specs.Examples.{bad_at}

abbrev pub zeros : List ℕ
zeros = replicate 1024 0

-- an image of 2,600 blocks that begins so, behind its superblock, and has zeros behind that
abbrev pub image_with : List (List ℕ) → Image
image_with front = superblock 2600 ∷ front ++ replicate (2599 - length front) zeros

-- container 1 at version 1, with 23 bytes in block 2565
abbrev pub first_record : Rec
first_record = record { entity = 1; version = 1; stamp = 0 ∷ 1 ∷ replicate 62 0; length = 23; blocks = 2565 ∷ replicate 7 0 }

-- a block with the 23 bytes that spell an empty container of one page without a block
abbrev pub box_block : List ℕ
box_block = 1 ∷ 1 ∷ 0 ∷ (replicate 12 0 ++ 255 ∷ replicate 1008 0)

-- the same with a 5 behind the blob, and with the first byte of a locus
abbrev pub spotted_block : List ℕ
spotted_block = 1 ∷ 1 ∷ 0 ∷ (replicate 12 0 ++ 255 ∷ (replicate 84 0 ++ 5 ∷ replicate 923 0))

abbrev pub strange_block : List ℕ
strange_block = slice_set box_block 0 2

-- an image whose only record is that of the container, with this block behind it
abbrev pub box_image : List ℕ → Image
box_image block = image_with (header_block 1 ∷ open_gate ∷ zeros ∷ zeros ∷ body_block first_record ∷ open_gate ∷ (replicate 2558 zeros ++ block ∷ []))

-- no atlas is chosen
abbrev pub lone_box : Image
lone_box = box_image box_block

pub record WorkedImages : Type 0 where
  -- CHECK 1: no block at all, and one block less than the superblock says
  pub no_block : records_fault [] ≡ Some (bad_at 0 0)
  pub one_less : records_fault (superblock 2600 ∷ replicate 2598 zeros) ≡ Some (bad_at 0 12)
  -- CHECK 2: both gates closed; both open with equal epochs; a gate that is open by its second byte alone
  pub no_gate : records_fault (image_with (header_block 1 ∷ zeros ∷ header_block 2 ∷ zeros ∷ [])) ≡ Some (bad_at 2 0)
  pub equal_epochs : records_fault (image_with (header_block 7 ∷ open_gate ∷ header_block 7 ∷ open_gate ∷ [])) ≡ Some (bad_at 3 0)
  pub second_byte : records_fault (image_with (header_block 1 ∷ slice_set zeros 1 1 ∷ header_block 2 ∷ zeros ∷ [])) ≡ Some (bad_at 2 0)
  -- the header of the open area, of the area with the greater epoch, and none of the other's
  pub epoch_zero : records_fault (image_with (zeros ∷ open_gate ∷ header_block 1 ∷ zeros ∷ [])) ≡ Some (bad_at 1 0)
  pub greater_header : records_fault (image_with (header_block 1 ∷ open_gate ∷ slice_set (header_block 2) 8 1 ∷ open_gate ∷ [])) ≡ Some (bad_at 3 8)
  pub lesser_header : records_fault (image_with (slice_set (header_block 1) 8 1 ∷ open_gate ∷ header_block 2 ∷ open_gate ∷ [])) ≡ None
  -- CHECK 3: an open slot without a record; the same record twice; a slot behind a closed gate isn't looked at
  pub empty_slot : records_fault (image_with (header_block 1 ∷ open_gate ∷ zeros ∷ zeros ∷ zeros ∷ open_gate ∷ [])) ≡ Some (bad_at 5 4)
  pub same_twice : records_fault (image_with (header_block 1 ∷ open_gate ∷ zeros ∷ zeros ∷ body_block first_record ∷ open_gate ∷ body_block first_record ∷ open_gate ∷ [])) ≡ Some (bad_at 7 8)
  pub behind_closed : records_fault (image_with (header_block 1 ∷ open_gate ∷ zeros ∷ zeros ∷ zeros ∷ zeros ∷ zeros ∷ open_gate ∷ [])) ≡ None
  -- CHECK 4: a byte behind the blob that isn't 0; a first byte with which no container begins
  pub behind_blob : IsForeign (box_image spotted_block) (bad_at 2565 100)
  pub other_kind : IsForeign (box_image strange_block) (bad_at 2565 0)
  -- CHECK 5: the container's body
  pub without_atlas : IsForeign lone_box (bad_at 5 0)
