-- A disk goes on over each of its calls.
use Rattle.std.proofs.Common.{◌≤◌, ℕ, inl, arith}
use Rattle.edge_disk.specs.declared.disk.Disk.{Ghosts}
use Rattle.edge_disk.specs.Disk.{Ticks}
use Rattle.edge_disk.specs.Image.{Image}
use Rattle.edge_watched.specs.Handing.{next_moment}
use Rattle.edge_watched.specs.Watching.{HasGoneOn, IsAsAtStart, Start}

-- the clock's next tick comes to it
pub ticks_next : (clock : ℕ) → Ticks clock (next_moment clock)
ticks_next clock = record { one_more = λ short. grind arith; at_end = λ ended. grind arith }

module _ {D : Type 0} (disks : Ghosts D)
    (counts_now : (disk : D) (t : ℕ) (c : Image) → disks.tells → t ≤ disks.clock disk → disks.may_leave disk c → disks.left_since disk t c) where
  abbrev GoneOn : Start → D → Type 0
  GoneOn s d = HasGoneOn disks s d

  -- at the start
  pub begins : (s : Start) (d : D) → IsAsAtStart disks s d → GoneOn s d
  begins s d is = record {
    count = is.count;
    later = (let same = is.moment in omega (arith, same));
    no_fewer = (let same = is.fault_count in omega (arith, same));
    still = λ told before c may. is.may c may;
    past = λ told t c le left. inl (is.left t c left);
    counted = is.counted;
  }
