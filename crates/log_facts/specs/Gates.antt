-- The gates of a log's slots.
use Rattle.std.specs.Prelude.{◌≡◌, ℕ, ◌+◌, ◌<◌}
use Rattle.edge_tally.specs.edge_disk.Image.{Image, block_at}
use Rattle.image_blocks.specs.image_facts.Layout.{closed_gate, open_gate, slot_count}
use Rattle.image_blocks.specs.Layout.{slot_gate_at}
use Rattle.image_blocks.specs.declared.areas.Area.{Area}

-- the gates that an append into this slot writes: the slot's own has the bytes of an open one, and the next slot's, where there is one, those of a closed one
pub record HasGates (area : Area) (slot : ℕ) (image : Image) : Type 0 where
  pub own : block_at image (slot_gate_at area slot) ≡ open_gate
  pub next : slot + 1 < slot_count → block_at image (slot_gate_at area (slot + 1)) ≡ closed_gate
