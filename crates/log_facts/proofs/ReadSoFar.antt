-- Reads one after the other, and a log as far as it is read.
use Rattle.std.proofs.Common.{◌≡◌, ◌≤◌, ◌<◌, true, inl, inr, ⊎_elim, ℕ, List, length, None, ◌∙◌, arith}
use Rattle.std.specs.List.{AllPairs}
use Rattle.edge_tally.specs.edge_disk.declared.disk.Disk.{Ghosts}
use Rattle.edge_tally.specs.edge_disk.Image.{Image}
use Rattle.image_blocks.specs.base_types.declared.records.Rec.{Rec}
use Rattle.image_blocks.specs.image_facts.Checks.{body_fault, count_in}
use Rattle.image_blocks.specs.Checks.{body_in}
use Rattle.image_blocks.specs.image_facts.Layout.{is_open}
use Rattle.image_blocks.specs.Layout.{slot_gate_at}
use Rattle.image_blocks.specs.declared.areas.Area.{Area}
use Rattle.log_facts.specs.Logs.{AreInRange, IsOlder}
use Rattle.log_facts.specs.Reads.{ReadsOnly}
use Rattle.log_facts.proofs.Reached.{reads}

-- what holds after the first i slots
pub record ReadSoFar {D : Type 0} (disks : Ghosts D)
    (count : ℕ) (area : Area) (i : ℕ) (recs : List Rec) (old new : D) : Type 0 where
  pub len : length recs ≡ i
  pub recs_are : disks.tells → recs ≡ reads (disks.reading old) area i
  pub gates : disks.tells → (j : ℕ) → j < i → is_open (disks.reading old) (slot_gate_at area j) ≡ true
  pub good : disks.tells → count ≡ count_in (disks.reading old) → (j : ℕ) → j < i → body_fault (count_in (disks.reading old)) (reads (disks.reading old) area j) (body_in (disks.reading old) area j) ≡ None
  pub in_range : AreInRange count recs
  pub ascending : AllPairs IsOlder recs
  pub same : ReadsOnly disks old new

module _ {D : Type 0} {disks : Ghosts D} where
  -- reads after reads
  pub ReadsOnly-trans : (old mid new : D) → (disks.tells → (d : D) (t : ℕ) (c : Image) → t ≤ disks.clock d → disks.may_leave d c → disks.left_since d t c)
      → ReadsOnly disks old mid → ReadsOnly disks mid new
      → ReadsOnly disks old new
  ReadsOnly-trans old mid new counts_now one two = record {
    same_count = two.same_count ∙ one.same_count;
    same_clock = two.same_clock ∙ one.same_clock;
    later = omega (arith, one.later, two.later);
    same_reading = λ t. two.same_reading t ∙ one.same_reading t;
    stop = λ t c may. one.stop t c (two.stop t c may);
    time = λ t. record {
      later = omega (arith, one.same_clock, two.same_clock);
      nothing_else = λ s c le left.
          ⊎_elim
          (λ (was : disks.left_since mid s c). ⊎_elim inl (λ (may : disks.may_leave mid c). inl (counts_now t old s c le (one.stop t c may))) ((one.time t).nothing_else s c le was))
          inr
          ((two.time t).nothing_else s c (omega (arith, le, one.same_clock)) left);
      keeps = λ s c le left. (two.time t).keeps s c (omega (arith, le, one.same_clock)) ((one.time t).keeps s c le left);
    };
  }
