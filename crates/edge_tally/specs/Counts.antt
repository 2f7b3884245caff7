-- A count beside a disk's clock.
use Rattle.std.specs.Prelude.{◌≡◌, ℕ, ◌+◌, ◌-◌, ◌^◌, ◌<◌, ◌≤◌}
use Rattle.edge_disk.specs.declared.disk.Disk.{Ghosts}

-- Where the clock stood as far past some moment as the count told, it stands so now, short of its end; and neither falls.
pub record CountsOn (clock_old clock_new begun_old begun_new : ℕ) : Type 0 where
  pub clock_later : clock_old ≤ clock_new
  pub begun_later : begun_old ≤ begun_new
  pub same : (since : ℕ) → clock_old ≡ since + begun_old → clock_new < 2 ^ 64 - 1 → clock_new ≡ since + begun_new

-- What a disk and a count beside it show, whether or not the disk tells its content
pub record Shown : Type 0 where
  pub blocks : ℕ
  pub clock : ℕ
  pub faults : ℕ
  pub begun : ℕ

-- so much is shown of this disk, with this count. The words are those of the disk.
abbrev pub shown : {D : Type 0} → Ghosts D → D → ℕ → Shown
shown disks disk begun = record { blocks = disks.block_count disk; clock = disks.clock disk; faults = disks.faults disk; begun = begun }

-- what a call that begins so many writes and syncs at most leaves of that, whatever it answers
pub record Begins (most : ℕ) (old new : Shown) : Type 0 where
  pub count : new.blocks ≡ old.blocks
  pub few : new.begun ≤ old.begun + most
  pub counts : CountsOn old.clock new.clock old.begun new.begun
  pub later : old.faults ≤ new.faults
