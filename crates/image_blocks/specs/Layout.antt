-- Where the blocks of an area stand on a disk.
use Rattle.std.specs.Prelude.{◌≡◌, ◌⊎◌, ℕ, ◌+◌, ◌*◌}
use Rattle.edge_disk.specs.Image.{Image, IsInRun, block_at}
use Rattle.image_blocks.specs.declared.areas.Area.{Area}
use Rattle.image_blocks.specs.declared.areas.Area.TheVariants.{A, B}
use Rattle.image_facts.specs.Layout.{slot_blocks, first_number}

-- the other area
abbrev pub other : Area → Area
other A = B
other B = A

-- the block of an area's header, with its epoch
abbrev pub header_at : Area → ℕ
header_at A = 1
header_at B = 3

-- the block of an area's gate
abbrev pub gate_at : Area → ℕ
gate_at A = 2
gate_at B = 4

-- the first block of an area's 640 slots
abbrev pub slots_at : Area → ℕ
slots_at A = 5
slots_at B = 1285

-- the block of a slot's body, and that of its gate
abbrev pub body_at : Area → ℕ → ℕ
body_at area i = slots_at area + 2 * i

abbrev pub slot_gate_at : Area → ℕ → ℕ
slot_gate_at area i = slots_at area + 2 * i + 1

-- BLOCKS OF AREAS

-- a block of an area: its header, its gate, or one of its slots
abbrev pub IsOfArea : Area → ℕ → Type 0
IsOfArea area n = (n ≡ header_at area) ⊎ (n ≡ gate_at area) ⊎ IsInRun (slots_at area) slot_blocks n

abbrev pub epoch_in : Image → Area → ℕ
epoch_in image area = first_number (block_at image (header_at area))
