-- How a disk has gone on since it was handed in.
use Rattle.std.specs.Prelude.{◌≡◌, ◌⊎◌, ◌≤◌, ◌<◌, ℕ}
use Rattle.edge_disk.specs.declared.disk.Disk.{Ghosts}
use Rattle.edge_disk.specs.Image.{Image}
use Rattle.edge_watched.specs.Handing.{next_moment}

-- when it was handed in: its blocks, its clock, its count of faults, what a stop could leave, and what one since a moment had left
pub record Start : Type 1 where
  pub blocks : ℕ
  pub clock : ℕ
  pub faults : ℕ
  pub may : Image → Type 0
  pub left : ℕ → Image → Type 0

module _ {D : Type 0} (disks : Ghosts D) where
  -- the words of a disk as it is
  abbrev pub start_of : D → Start
  start_of d = record { blocks = disks.block_count d; clock = disks.clock d; faults = disks.faults d; may = disks.may_leave d; left = disks.left_since d }

  -- the disk is as the start says
  pub record IsAsAtStart (s : Start) (disk : D) : Type 0 where
    pub count : disks.block_count disk ≡ s.blocks
    pub moment : disks.clock disk ≡ s.clock
    pub fault_count : disks.faults disk ≡ s.faults
    pub may : (c : Image) → disks.may_leave disk c → s.may c
    pub left : (t : ℕ) (c : Image) → disks.left_since disk t c → s.left t c
    pub counted : disks.tells → (t : ℕ) (c : Image) → t ≤ s.clock → s.may c → s.left t c

  -- THE DISK HAS GONE ON from that start: it has as many blocks, neither its clock nor its count of faults fell, and what a stop had left by
  -- then, counted from a moment before the start, it had left before the start, or leaves it since the first write or sync behind it
  pub record HasGoneOn (s : Start) (disk : D) : Type 0 where
    pub count : disks.block_count disk ≡ s.blocks
    pub later : s.clock ≤ disks.clock disk
    pub no_fewer : s.faults ≤ disks.faults disk
    pub still : disks.tells → disks.clock disk < next_moment s.clock → (c : Image) → disks.may_leave disk c → s.may c
    pub past : disks.tells → (t : ℕ) (c : Image) → t ≤ s.clock → disks.left_since disk t c → s.left t c ⊎ ((next_moment s.clock ≤ disks.clock disk) × disks.left_since disk (next_moment s.clock) c)
    pub counted : disks.tells → (t : ℕ) (c : Image) → t ≤ s.clock → s.may c → s.left t c
