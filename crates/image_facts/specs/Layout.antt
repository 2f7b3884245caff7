-- How many blocks an image has, its bounds, its superblock, and its headers and gates.
use Rattle.std.specs.Prelude.{ℕ, ◌^◌, Bool, ◌==◌, List, ◌++◌, replicate, codes}
use Rattle.byteorder.specs.Endian.{little_bytes, little_number}
use Rattle.edge_disk.specs.Image.{Image, block_at}

abbrev pub slot_count : ℕ
slot_count = 640

-- how many blocks they are
abbrev pub slot_blocks : ℕ
slot_blocks = 1280

-- the first block of the pool
abbrev pub pool_at : ℕ
pool_at = 2565

-- LIMITS

-- the least number of blocks of an image, and the greatest
abbrev pub least_blocks : ℕ
least_blocks = 2600

abbrev pub most_blocks : ℕ
most_blocks = 65536

-- the greatest epoch, version and component of a stamp
abbrev pub last_number : ℕ
last_number = 2 ^ 62

-- the greatest length of a blob
abbrev pub most_length : ℕ
most_length = 8192

-- GATES

-- the number in the first 8 bytes
abbrev pub first_number : List ℕ → ℕ
first_number block = little_number 8 block

-- A gate is open exactly where its first 8 bytes are the number 1.
abbrev pub is_open : Image → ℕ → Bool
is_open image n = first_number (block_at image n) == 1

unfoldable pub closed_gate : List ℕ
closed_gate = replicate 1024 0

unfoldable pub open_gate : List ℕ
open_gate = little_bytes 8 1 ++ replicate 1016 0

-- HEADERS AND THE SUPERBLOCK, as they are written

unfoldable pub header_block : ℕ → List ℕ
header_block epoch = little_bytes 8 epoch ++ replicate 1016 0

unfoldable pub superblock : ℕ → List ℕ
superblock count = codes "GRASSHOP" ++ (little_bytes 4 1 ++ (little_bytes 4 count ++ replicate 1008 0))
