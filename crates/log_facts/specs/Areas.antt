-- Two areas that stay as they are.
use Rattle.std.specs.Prelude.{◌≡◌}
use Rattle.edge_tally.specs.edge_disk.Image.{Image, block_at}
use Rattle.image_blocks.specs.Layout.{gate_at, header_at}
use Rattle.image_blocks.specs.declared.areas.Area.{Area}

-- the headers and gates of both areas are the same
pub record SameAreas (old new : Image) : Type 0 where
  pub header : (area : Area) → block_at new (header_at area) ≡ block_at old (header_at area)
  pub gate : (area : Area) → block_at new (gate_at area) ≡ block_at old (gate_at area)
