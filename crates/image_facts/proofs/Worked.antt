-- The worked blocks, computed.
use Rattle.std.proofs.Common.{◌≡◌, [], ◌∷◌, length, take, Some, None, refl}
use Rattle.std.specs.Prelude.{slice_set}
use Rattle.image_facts.specs.Layout.{superblock, header_block, open_gate, closed_gate, first_number}
use Rattle.image_facts.specs.Bodies.{body_block, record_in}
use Rattle.image_facts.specs.Checks.{blocks_fault, body_fault, header_fault, stamps_fault, superblock_fault}
use Rattle.image_facts.specs.Examples.{WorkedBlocks, atlas_record, body_with}

superblock_is : take 16 (superblock 4096) ≡ 71 ∷ 82 ∷ 65 ∷ 83 ∷ 83 ∷ 72 ∷ 79 ∷ 80 ∷ 1 ∷ 0 ∷ 0 ∷ 0 ∷ 0 ∷ 16 ∷ 0 ∷ 0 ∷ []
unfolding superblock
superblock_is = refl

superblock_len : length (superblock 4096) ≡ 1024
unfolding superblock
superblock_len = refl

superblock_good : superblock_fault 4096 (superblock 4096) ≡ None
unfolding superblock
superblock_good = refl

word : superblock_fault 4096 (slice_set (superblock 4096) 7 81) ≡ Some 0
unfolding superblock
word = refl

format : superblock_fault 4096 (slice_set (superblock 4096) 11 1) ≡ Some 8
unfolding superblock
format = refl

more_than_there_are : superblock_fault 4095 (superblock 4096) ≡ Some 12
unfolding superblock
more_than_there_are = refl

too_few : superblock_fault 4096 (superblock 2599) ≡ Some 12
unfolding superblock
too_few = refl

too_many : superblock_fault 70000 (superblock 65537) ≡ Some 12
unfolding superblock
too_many = refl

superblock_rest : superblock_fault 4096 (slice_set (superblock 4096) 1023 1) ≡ Some 1023
unfolding superblock
superblock_rest = refl

epoch : header_fault (header_block 7) ≡ None
unfolding header_block
epoch = refl

no_epoch : header_fault (header_block 0) ≡ Some 0
unfolding header_block
no_epoch = refl

last_epoch : header_fault (header_block 4611686018427387904) ≡ None
unfolding header_block
last_epoch = refl

past_epoch : header_fault (header_block 4611686018427387905) ≡ Some 0
unfolding header_block
past_epoch = refl

header_rest : header_fault (slice_set (header_block 7) 8 1) ≡ Some 8
unfolding header_block
header_rest = refl

gate_open : first_number open_gate ≡ 1
unfolding open_gate
gate_open = refl

gate_closed : first_number closed_gate ≡ 0
unfolding closed_gate
gate_closed = refl

gate_by_the_second_byte : first_number (slice_set closed_gate 1 1) ≡ 256
unfolding closed_gate
gate_by_the_second_byte = refl

body_len : length (body_block atlas_record) ≡ 1024
unfolding body_block record_in stamps_fault blocks_fault
body_len = refl

body_back : record_in (body_block atlas_record) ≡ atlas_record
unfolding body_block record_in stamps_fault blocks_fault
body_back = refl

body_good : body_fault 4096 [] (body_block atlas_record) ≡ None
unfolding body_block record_in stamps_fault blocks_fault
body_good = refl

entity : body_fault 4096 [] (body_with 0 64) ≡ Some 0
unfolding body_block record_in stamps_fault blocks_fault
entity = refl

no_length : body_fault 4096 [] (body_with 4 0) ≡ Some 4
unfolding body_block record_in stamps_fault blocks_fault
no_length = refl

past_length : body_fault 4096 [] (body_with 5 32) ≡ Some 4
unfolding body_block record_in stamps_fault blocks_fault
past_length = refl

no_version : body_fault 4096 [] (body_with 8 0) ≡ Some 8
unfolding body_block record_in stamps_fault blocks_fault
no_version = refl

same_version : body_fault 4096 (atlas_record ∷ []) (body_block atlas_record) ≡ Some 8
unfolding body_block record_in stamps_fault blocks_fault
same_version = refl

own_component : body_fault 4096 [] (body_with 16 3) ≡ Some 16
unfolding body_block record_in stamps_fault blocks_fault
own_component = refl

other_component : body_fault 4096 [] (body_with 351 65) ≡ Some 344
unfolding body_block record_in stamps_fault blocks_fault
other_component = refl

block_of_an_area : body_fault 4096 [] (body_with 528 4) ≡ Some 528
unfolding body_block record_in stamps_fault blocks_fault
block_of_an_area = refl

block_past_the_end : body_fault 2565 [] (body_block atlas_record) ≡ Some 528
unfolding body_block record_in stamps_fault blocks_fault
block_past_the_end = refl

block_not_needed : body_fault 4096 [] (body_with 533 11) ≡ Some 532
unfolding body_block record_in stamps_fault blocks_fault
block_not_needed = refl

block_twice : body_fault 4096 [] (slice_set (slice_set (body_with 5 5) 532 5) 533 10) ≡ Some 532
unfolding body_block record_in stamps_fault blocks_fault
block_twice = refl

body_rest : body_fault 4096 [] (body_with 1000 1) ≡ Some 1000
unfolding body_block record_in stamps_fault blocks_fault
body_rest = refl

pub worked_blocks : WorkedBlocks
worked_blocks = record {
  superblock_is = superblock_is;
  superblock_len = superblock_len;
  superblock_good = superblock_good;
  word = word;
  format = format;
  more_than_there_are = more_than_there_are;
  too_few = too_few;
  too_many = too_many;
  superblock_rest = superblock_rest;
  epoch = epoch;
  no_epoch = no_epoch;
  last_epoch = last_epoch;
  past_epoch = past_epoch;
  header_rest = header_rest;
  gate_open = gate_open;
  gate_closed = gate_closed;
  gate_by_the_second_byte = gate_by_the_second_byte;
  body_len = body_len;
  body_back = body_back;
  body_good = body_good;
  entity = entity;
  no_length = no_length;
  past_length = past_length;
  no_version = no_version;
  same_version = same_version;
  own_component = own_component;
  other_component = other_component;
  block_of_an_area = block_of_an_area;
  block_past_the_end = block_past_the_end;
  block_not_needed = block_not_needed;
  block_twice = block_twice;
  body_rest = body_rest;
}
