-- Records as they stand in the blocks of slots.
use Rattle.std.specs.Prelude.{ℕ, ◌+◌, ◌*◌, ◌/◌, List, ◌++◌, map, replicate, take}
use Rattle.std.specs.List.{concat, flat_map}
use Rattle.byteorder.specs.Endian.{little_bytes}
use Rattle.base_bytes.specs.Fields.{number_at as field_at}
use Rattle.edge_disk.specs.Image.{Image, block_at}
use Rattle.model_kernel.specs.base_types.Edges.{upto}
use Rattle.model_kernel.specs.base_types.declared.records.Rec.{Rec}

-- the number of so many bytes at a place
abbrev pub number_at : ℕ → ℕ → List ℕ → ℕ
number_at at width bytes = field_at at width bytes

-- the block of a record's body: entity, length, version, stamp, blocks, zeros
unfoldable pub body_block : Rec → List ℕ
body_block r =
    little_bytes 4 r.entity ++ (little_bytes 4 r.length ++ (little_bytes 8 r.version
    ++ (flat_map (little_bytes 8) r.stamp ++ (flat_map (little_bytes 4) r.blocks ++ replicate 464 0))))

-- the record that a body stands for
unfoldable pub record_in : List ℕ → Rec
record_in body = record {
  entity = number_at 0 4 body;
  version = number_at 8 8 body;
  stamp = map (λ y. number_at (16 + 8 * y) 8 body) (upto 64);
  length = number_at 4 4 body;
  blocks = map (λ i. number_at (528 + 4 * i) 4 body) (upto 8);
}

-- how many blocks so many bytes need
abbrev pub blocks_for : ℕ → ℕ
blocks_for len = (len + 1023) / 1024

-- the blocks of a record's blob, and the bytes in them
abbrev pub blob_blocks : Rec → List ℕ
blob_blocks r = take (blocks_for r.length) r.blocks

abbrev pub blob_room : Image → Rec → List ℕ
blob_room image r = concat (map (block_at image) (blob_blocks r))

-- the bytes of its blob
abbrev pub blob_in : Image → Rec → List ℕ
blob_in image r = take r.length (blob_room image r)
