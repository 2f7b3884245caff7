-- The first bad place of a superblock, of an area's header, and of a record's body.
use Rattle.std.specs.Prelude.{ℕ, ◌+◌, ◌*◌, Bool, not, ◌&&◌, ◌==◌, nat_le, nat_lt, if◌then◌else◌, List, [], ◌∷◌, map, take, drop, Option, Some, None, bytes_eq, codes, slice_index}
use Rattle.std.specs.List.{list_any}
use Rattle.edge_disk.specs.Image.{Image, block_at}
use Rattle.model_kernel.specs.base_types.Edges.{upto}
use Rattle.model_kernel.specs.base_types.declared.records.Rec.{Rec}
use Rattle.model_kernel.specs.Words.{first}
use Rattle.image_facts.specs.Layout.{pool_at, first_number, last_number, least_blocks, most_blocks, most_length}
use Rattle.image_facts.specs.Bodies.{number_at, record_in, blocks_for}

-- the place, where the test fails
abbrev pub unless_at : Bool → ℕ → Option ℕ
unless_at test place = if test then None else Some place

-- the first byte that isn't 0, counted from a place on
abbrev pub first_not_zero : ℕ → List ℕ → Option ℕ
first_not_zero place [] = None
first_not_zero place (b ∷ bytes) = if b == 0 then first_not_zero (place + 1) bytes else Some place

abbrev pub zeros_from : ℕ → List ℕ → Option ℕ
zeros_from place block = first_not_zero place (drop place block)

-- CHECK 1: the superblock of a disk of so many blocks

abbrev pub count_in : Image → ℕ
count_in image = number_at 12 4 (block_at image 0)

abbrev pub is_count : ℕ → ℕ → Bool
is_count blocks count = nat_le least_blocks count && nat_le count most_blocks && nat_le count blocks

abbrev pub superblock_fault : ℕ → List ℕ → Option ℕ
superblock_fault blocks block =
    first (unless_at (bytes_eq (take 8 block) (codes "GRASSHOP")) 0
    ∷ unless_at (number_at 8 4 block == 1) 8
    ∷ unless_at (is_count blocks (number_at 12 4 block)) 12
    ∷ zeros_from 16 block ∷ [])

abbrev pub is_epoch : ℕ → Bool
is_epoch n = nat_le 1 n && nat_le n last_number

abbrev pub header_fault : List ℕ → Option ℕ
header_fault block = first (unless_at (is_epoch (first_number block)) 0 ∷ zeros_from 8 block ∷ [])

-- CHECK 3: the bodies of the log, in order

-- the version of the last record of the entity, 0 for none
abbrev pub last_version : List Rec → ℕ → ℕ
last_version [] x = 0
last_version (r ∷ rs) x = if list_any (λ (s : Rec). s.entity == x) rs then last_version rs x else if r.entity == x then r.version else 0

abbrev pub stamp_fault : ℕ → ℕ → List ℕ → ℕ → Option ℕ
stamp_fault x version body y =
    unless_at (if y == x then number_at (16 + 8 * y) 8 body == version else nat_le (number_at (16 + 8 * y) 8 body) last_number) (16 + 8 * y)

-- the first bad component
unfoldable pub stamps_fault : ℕ → ℕ → List ℕ → Option ℕ
stamps_fault x version body = first (map (stamp_fault x version body) (upto 64))

-- a block of the pool that isn't among the earlier ones, or 0 from the needed number on
abbrev pub is_block_number : ℕ → ℕ → List ℕ → ℕ → Bool
is_block_number count need blocks i =
    if nat_lt i need
    then nat_le pool_at (slice_index blocks i) && nat_lt (slice_index blocks i) count && not (list_any (λ b. b == slice_index blocks i) (take i blocks))
    else slice_index blocks i == 0

abbrev pub block_fault : ℕ → ℕ → List ℕ → ℕ → Option ℕ
block_fault count need blocks i = unless_at (is_block_number count need blocks i) (528 + 4 * i)

-- the first bad number of these, of which so many are needed
unfoldable pub blocks_fault : ℕ → ℕ → List ℕ → Option ℕ
blocks_fault count need blocks = first (map (block_fault count need blocks) (upto 8))

-- in an image of so many blocks, behind these records
abbrev pub body_fault : ℕ → List Rec → List ℕ → Option ℕ
body_fault count before body =
    first (unless_at (nat_lt (number_at 0 4 body) 64) 0
    ∷ unless_at (nat_le 1 (number_at 4 4 body) && nat_le (number_at 4 4 body) most_length) 4
    ∷ unless_at (is_epoch (number_at 8 8 body) && nat_lt (last_version before (number_at 0 4 body)) (number_at 8 8 body)) 8
    ∷ stamps_fault (number_at 0 4 body) (number_at 8 8 body) body
    ∷ blocks_fault count (blocks_for (number_at 4 4 body)) (record_in body).blocks
    ∷ zeros_from 560 body ∷ [])
