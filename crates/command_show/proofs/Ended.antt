-- What a command leaves that reads an image, from how the calls below ended.
use Rattle.std.proofs.Common.{◌≡◌, inr, refl, subst, sym}
use Rattle.image_reading.specs.model_kernel.State.{Text}
use Rattle.image_reading.specs.image_blocks.Checks.{Bad}
use Rattle.image_reading.proofs.image_meaning_lemmas.Firsts.{not_both}
use Rattle.image_reading.specs.image_meaning.Foreign.{IsForeign}
use Rattle.image_reading.specs.image_meaning.Meaning.{Accepted}
use Rattle.image_reading.specs.log_reading.declared.faults.ReadingFault.{ReadingFault}
use Rattle.image_reading.specs.log_reading.declared.faults.ReadingFault.TheVariants as reading
use Rattle.command_outcomes.specs.Ends.{IsPut, IsUnrun}
use Rattle.command_outcomes.specs.Faults.{fault_of_reading}
use Rattle.command_outcomes.specs.Seen.{Gave, IsOnlyRead, SeenDisk, SeenSink}
use Rattle.command_outcomes.specs.Statuses.{IsComplete, ending, status_by}
use Rattle.command_outcomes.specs.declared.faults.Fault.{Fault}
use Rattle.command_outcomes.specs.declared.statuses.Status.{Status}
use Rattle.command_outcomes.proofs.Endings.{fault_ends, put_ends}
use Rattle.command_show.specs.Readings.{IsUnread, ReadingLeaves, StopsReading}

-- why a reading gave no facts, in its own words
pub record IsReadingFault (disk : SeenDisk) (f : ReadingFault) : Type 0 where
  pub foreign : disk.tells → (bad : Bad) → f ≡ reading.Foreign bad → IsForeign disk.before.reading bad
  pub cause : f ≡ reading.ReadFault → disk.rose

module _ (disk : SeenDisk) where
  unread : (f : ReadingFault) → IsReadingFault disk f → IsUnread disk (fault_of_reading f)
  unread (reading.Foreign bad) why = λ told. why.foreign told bad refl
  unread reading.ReadFault why = why.cause refl
  unread reading.Memory why = tt

  -- of an accepted image, and without a fault of the disk, only for want of memory
  wanted : (f : ReadingFault) → IsReadingFault disk f → disk.tells → Accepted disk.before.reading → (disk.rose → ⊥) → IsComplete (status_by (fault_of_reading f))
  wanted (reading.Foreign bad) why told accepted calm = absurd (not_both disk.before.reading bad accepted (why.foreign told bad refl))
  wanted reading.ReadFault why told accepted calm = absurd (calm (why.cause refl))
  wanted reading.Memory why told accepted calm = inr refl

  pub unread_complete : (f : ReadingFault) (fault : Fault) (status : Status) → fault ≡ fault_of_reading f → status ≡ status_by fault → IsReadingFault disk f
      → disk.tells → Accepted disk.before.reading → (disk.rose → ⊥) → IsComplete status
  unread_complete f fault status is by why told accepted calm =
      subst IsComplete (sym by) (subst (λ k. IsComplete (status_by k)) (sym is) (wanted f why told accepted calm))

module _ (disk : SeenDisk) (sink : SeenSink) (gave : Gave) (all : (Text → Type 0) → Type 0) (only_read : IsOnlyRead disk) where
  -- the bytes were put, all of them or a front
  pub read_leaves : (bytes : Text) (status : Status) → gave.status ≡ status → IsPut sink bytes status → ((Puts : Text → Type 0) → Puts bytes → all Puts)
      → ReadingLeaves disk sink gave all (ending gave.status)
  read_leaves bytes status is put turn = record {
    only_read = only_read;
    ends = put_ends sink all (StopsReading disk sink gave) gave.status bytes (subst (IsPut sink bytes) (sym is) put) turn;
  }

  -- a fault came in their place
  pub unread_leaves : (f : ReadingFault) (fault : Fault) → fault ≡ fault_of_reading f → gave.status ≡ status_by fault → IsUnrun sink gave fault → IsReadingFault disk f
      → ReadingLeaves disk sink gave all (ending gave.status)
  unread_leaves f fault is by unrun why = record {
    only_read = only_read;
    ends = fault_ends sink all (StopsReading disk sink gave) gave.status fault by (record { unrun = unrun; why = subst (IsUnread disk) (sym is) (unread disk f why) });
  }
