-- What the two halves of an append write.
use Rattle.std.specs.Prelude.{◌≡◌, ◌⊎◌, ℕ, ◌+◌, ◌<◌}
use Rattle.edge_tally.specs.edge_disk.declared.disk.Disk.{Ghosts}
use Rattle.edge_tally.specs.edge_disk.Image.{Image, SameOutside}
use Rattle.image_blocks.specs.Layout.{body_at, slot_gate_at}
use Rattle.image_blocks.specs.image_facts.Layout.{slot_count}
use Rattle.image_blocks.specs.declared.areas.Area.{Area}

-- the body of the slot, and the next slot's gate
abbrev pub IsBodyBlock : Area → ℕ → ℕ → Type 0
IsBodyBlock area used n = (n ≡ body_at area used) ⊎ ((used + 1 < slot_count) × (n ≡ slot_gate_at area (used + 1)))

-- what a stop could leave at the start, or what read then with any bytes in the gate's block
abbrev pub IsOpening : {D : Type 0} → Ghosts D → ℕ → D → Image → Type 0
IsOpening disks at old c = disks.may_leave old c ⊎ SameOutside (λ n. n ≡ at) (disks.reading old) c
