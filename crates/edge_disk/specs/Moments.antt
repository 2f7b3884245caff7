-- What a stop leaves at any moment of a stretch of calls.
use Rattle.std.specs.Prelude.{◌⊎◌, ◌≤◌, ℕ}
use Rattle.edge_disk.specs.declared.disk.Disk.{Ghosts}
use Rattle.edge_disk.specs.Image.{Image, SameOutside}

-- A stop at any moment since old leaves an image that has P.
pub record LeavesOnly {D : Type 0} (disks : Ghosts D) (old new : D) (P : Image → Type 0) : Type 0 where
  pub later : disks.clock old ≤ disks.clock new
  pub each : (c : Image) → disks.left_since new (disks.clock old) c → P c
  -- for a stretch that began earlier
  pub before : (t : ℕ) (c : Image) → t ≤ disks.clock old → disks.left_since new t c → disks.left_since old t c ⊎ P c

-- an image that a stop could leave at old, with any bytes in these blocks
pub record WasLeft {D : Type 0} (may_leave : D → Image → Type 0) (these : ℕ → Type 0) (old : D) (c : Image) : Type 0 where
  pub from : Image
  pub could : may_leave old from
  pub same : SameOutside these from c

-- Quiet but for these blocks: a stop at any moment since old leaves what it could leave then, with any bytes in these blocks.
abbrev pub Quiet : {D : Type 0} → Ghosts D → (ℕ → Type 0) → D → D → Type 0
Quiet disks these old new = LeavesOnly disks old new (WasLeft disks.may_leave these old)
