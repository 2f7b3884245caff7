-- Blocks worked out by hand: what they are, and what the checks find in them.
use Rattle.std.specs.Prelude.{◌≡◌, ℕ, List, [], ◌∷◌, ◌++◌, length, replicate, slice_set, take, Some, None}
use Rattle.model_kernel.specs.base_types.declared.records.Rec.{Rec}
use Rattle.image_facts.specs.Layout.{superblock, header_block, open_gate, closed_gate, first_number}
use Rattle.image_facts.specs.Bodies.{body_block, record_in}
use Rattle.image_facts.specs.Checks.{body_fault, header_fault, superblock_fault}

-- the record of the atlas at version 2, with 9 bytes
abbrev pub atlas_record : Rec
atlas_record = record { entity = 0; version = 2; stamp = 2 ∷ 2 ∷ replicate 39 0 ++ 1 ∷ replicate 22 0; length = 9; blocks = 2565 ∷ replicate 7 0 }

abbrev pub body_with : ℕ → ℕ → List ℕ
body_with place byte = slice_set (body_block atlas_record) place byte

pub record WorkedBlocks : Type 0 where
  -- the superblock of 4,096 blocks
  pub superblock_is : take 16 (superblock 4096) ≡ 71 ∷ 82 ∷ 65 ∷ 83 ∷ 83 ∷ 72 ∷ 79 ∷ 80 ∷ 1 ∷ 0 ∷ 0 ∷ 0 ∷ 0 ∷ 16 ∷ 0 ∷ 0 ∷ []
  pub superblock_len : length (superblock 4096) ≡ 1024
  pub superblock_good : superblock_fault 4096 (superblock 4096) ≡ None
  pub word : superblock_fault 4096 (slice_set (superblock 4096) 7 81) ≡ Some 0
  pub format : superblock_fault 4096 (slice_set (superblock 4096) 11 1) ≡ Some 8
  pub more_than_there_are : superblock_fault 4095 (superblock 4096) ≡ Some 12
  pub too_few : superblock_fault 4096 (superblock 2599) ≡ Some 12
  pub too_many : superblock_fault 70000 (superblock 65537) ≡ Some 12
  pub superblock_rest : superblock_fault 4096 (slice_set (superblock 4096) 1023 1) ≡ Some 1023
  -- headers and gates
  pub epoch : header_fault (header_block 7) ≡ None
  pub no_epoch : header_fault (header_block 0) ≡ Some 0
  pub last_epoch : header_fault (header_block 4611686018427387904) ≡ None
  pub past_epoch : header_fault (header_block 4611686018427387905) ≡ Some 0
  pub header_rest : header_fault (slice_set (header_block 7) 8 1) ≡ Some 8
  pub gate_open : first_number open_gate ≡ 1
  pub gate_closed : first_number closed_gate ≡ 0
  pub gate_by_the_second_byte : first_number (slice_set closed_gate 1 1) ≡ 256
  -- the body of the atlas's record, there and back
  pub body_len : length (body_block atlas_record) ≡ 1024
  pub body_back : record_in (body_block atlas_record) ≡ atlas_record
  pub body_good : body_fault 4096 [] (body_block atlas_record) ≡ None
  pub entity : body_fault 4096 [] (body_with 0 64) ≡ Some 0
  pub no_length : body_fault 4096 [] (body_with 4 0) ≡ Some 4
  pub past_length : body_fault 4096 [] (body_with 5 32) ≡ Some 4
  pub no_version : body_fault 4096 [] (body_with 8 0) ≡ Some 8
  pub same_version : body_fault 4096 (atlas_record ∷ []) (body_block atlas_record) ≡ Some 8
  pub own_component : body_fault 4096 [] (body_with 16 3) ≡ Some 16
  pub other_component : body_fault 4096 [] (body_with 351 65) ≡ Some 344
  pub block_of_an_area : body_fault 4096 [] (body_with 528 4) ≡ Some 528
  pub block_past_the_end : body_fault 2565 [] (body_block atlas_record) ≡ Some 528
  pub block_not_needed : body_fault 4096 [] (body_with 533 11) ≡ Some 532
  pub block_twice : body_fault 4096 [] (slice_set (slice_set (body_with 5 5) 532 5) 533 10) ≡ Some 532
  pub body_rest : body_fault 4096 [] (body_with 1000 1) ≡ Some 1000
