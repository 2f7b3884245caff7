-- What is seen of a disk, from the clauses of the calls below.
use Rattle.std.proofs.Common.{◌⊎◌, inl, inr}
use Rattle.edge_disk.specs.declared.disk.Disk.{Ghosts}
use Rattle.edge_disk.specs.Image.{Image}
use Rattle.edge_disk.specs.Moments.{LeavesOnly}
use Rattle.log_reading.specs.log_facts.Reads.{ReadsOnly}
use Rattle.command_outcomes.specs.Seen.{IsOnlyRead, LeavesImages, seen_disk}

module _ {D : Type 0} (disks : Ghosts D) (old new : D) where
  pub only_read : ReadsOnly disks old new → IsOnlyRead (seen_disk disks old new)
  only_read reads = record {
    blocks = reads.same_count;
    clock = reads.same_clock;
    reading = reads.same_reading;
    may = reads.stop;
    left = λ told. (reads.time told).nothing_else;
  }

  weaker : {A P Q : Type 0} → (P → Q) → A ⊎ P → A ⊎ Q
  weaker turn (inl a) = inl a
  weaker turn (inr p) = inr (turn p)

  pub leaves_images : (P Q : Image → Type 0) → ((c : Image) → P c → Q c) → LeavesOnly disks old new P → LeavesImages (seen_disk disks old new) Q
  leaves_images P Q turn leaves = record {
    later = leaves.later;
    each = λ c left. turn c (leaves.each c left);
    before = λ t c le left. weaker (turn c) (leaves.before t c le left);
  }
