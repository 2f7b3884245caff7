-- What reads of a blob and of pages leave of a store.
use Rattle.std.proofs.Common.{◌≡◌, ℕ, Bool, true, false, ◌||◌, refl, sym, ap, ◌∙◌}
use Rattle.std.specs.Prelude.{IsTrue, Result, IsErrOf, OnOk, Ok, Err}
use Rattle.std.specs.Result.{is_err}
use Rattle.std.proofs.lemmas.Bool.{false≢true}
use Rattle.edge_disk.specs.Counts.{Rose}
use Rattle.edge_disk.specs.Image.{Image}
use Rattle.edge_disk.specs.declared.disk.Disk.{Ghosts}
use Rattle.node_pages.specs.Reading.{AnswersReads, GoesByReads}
use Rattle.node_pages.specs.declared.faults.ShipFault.{ShipFault}
use Rattle.node_pages.specs.declared.faults.ShipFault.TheVariants as ship
use Rattle.kernel_record_facts.specs.Cells.{words_on}
use Rattle.store_snapshots.specs.Paging.{GoesByPages, GoesByPages-join}
use Rattle.store_snapshots.specs.ReadAnswers.{ReadAnswers}
use Rattle.store_snapshots.specs.declared.faults.StoreFault.{StoreFault}
use Rattle.store_snapshots.specs.declared.faults.StoreFault.TheVariants as fault
use Rattle.store_snapshots.specs.log_facts.Reads.{ReadsOnly}
use Rattle.store_snapshots.specs.store_books.Between.{OnlyPages}
use Rattle.store_snapshots.specs.store_books.Books.{kept_names}
use Rattle.store_snapshots.specs.store_facts.State.{State, books}

module _ {D : Type 0} (disks : Ghosts D) (old mid : State D) (same : mid ≡ record old { disk = mid.disk; shut = mid.shut }) (only : ReadsOnly disks old.disk mid.disk)
    (between : OnlyPages disks old.disk mid.disk (books old) (books mid) (books old).begun (books mid).begun) where
  by_pages : GoesByPages disks old mid
  by_pages = record { only = between; later = only.later }

  mid_held : (books mid).held ≡ (books old).held
  mid_held = ap (λ (st : State D). (books st).held) same

  mid_begun : (books mid).begun ≡ (books old).begun
  mid_begun = ap (λ (st : State D). (books st).begun) same

  mid_words : disks.tells → (n : ℕ) → words_on (disks.reading mid.disk) n ≡ words_on (disks.reading old.disk) n
  mid_words t n = ap (λ (image : Image). words_on image n) (only.same_reading t)

  -- behind the blob
  pub goes_to_blob : GoesByReads disks old mid
  goes_to_blob = record { pages = by_pages; same_held = mid_held; same_begun = mid_begun; same_words = λ t n held. mid_words t n }

  -- and behind the pages
  module _ (new : State D) (rest : GoesByPages disks mid new) (held : (books new).held ≡ (books mid).held) (begun : (books new).begun ≡ (books mid).begun)
      (words : disks.tells → (n : ℕ) → IsTrue ((books mid).held n || kept_names (books mid) n) → (⊥ → ⊥) → words_on (disks.reading new.disk) n ≡ words_on (disks.reading mid.disk) n) where
    pub goes_to_pages : GoesByReads disks old new
    goes_to_pages = record {
      pages = GoesByPages-join disks old mid new by_pages rest;
      same_held = held ∙ mid_held;
      same_begun = begun ∙ mid_begun;
      same_words = λ t n is. words t n (ap (λ (b : Bool). b || kept_names (books mid) n) (ap (λ (f : ℕ → Bool). f n) mid_held ∙ is)) (λ no. no) ∙ mid_words t n;
    }

-- ANSWERS

pub record IsDone {T : Type 0} (r : Result T ShipFault) : Type 0 where
  pub no_read : IsErrOf r ship.ReadFault → ⊥
  pub no_shut : IsErrOf r ship.Shut → ⊥

on_ok : {T P : Type 0} (r : Result T ShipFault) → P → OnOk r P
on_ok (Ok x) p = p
on_ok (Err e) p = tt

pub memory_done : {T : Type 0} → IsDone {T = T} (Err ship.Memory)
memory_done = record { no_read = λ is. cc is; no_shut = λ is. cc is }

pub ok_done : {T : Type 0} (x : T) → IsDone {T = T} (Ok x)
ok_done x = record { no_read = λ is. cc is; no_shut = λ is. cc is }

module _ {D : Type 0} (disks : Ghosts D) (old new : State D) (goes : GoesByReads disks old new) where
  pub answers_done : {T : Type 0} (r : Result T ShipFault) → IsDone r → (books new).shut ≡ false → AnswersReads disks old new r
  answers_done r done working = record { goes = goes; ok = on_ok r working; failed = λ is. absurd (done.no_read is); memory = λ is. working; not_shut = done.no_shut }

  pub answers_failed : {T : Type 0} → Rose (disks.faults old.disk) (disks.faults new.disk) × ((books new).shut ≡ true) → AnswersReads disks {T = T} old new (Err ship.ReadFault)
  answers_failed why = record { goes = goes; ok = tt; failed = λ is. why; memory = λ is. cc is; not_shut = λ is. cc is }

  -- a fault that was handed on
  pub answers_err : {T U : Type 0} (f : ShipFault) → (IsErrOf {T = U} (Err f) ship.ReadFault → Rose (disks.faults old.disk) (disks.faults new.disk) × ((books new).shut ≡ true)) → (IsErrOf {T = U} (Err f) ship.Memory → (books new).shut ≡ false)
      → (IsErrOf {T = U} (Err f) ship.Shut → ⊥) → AnswersReads disks {T = T} old new (Err f)
  answers_err ship.ReadFault failed memory shut = answers_failed (failed refl)
  answers_err ship.Memory failed memory shut = answers_done (Err ship.Memory) memory_done (memory refl)
  answers_err ship.Shut failed memory shut = absurd (shut refl)

-- of a store that worked a read that failed is a fault of the disk, and shuts it
pub blob_failed : {T : Type 0} (was now : Bool) (cause : Type 0) (r : Result T StoreFault) → ReadAnswers was now cause r → was ≡ false → is_err r ≡ true → cause × (now ≡ true)
blob_failed was now cause (Ok x) answers working e = absurd (false≢true e)
blob_failed was now cause (Err fault.ReadFault) answers working e = answers.read refl
blob_failed was now cause (Err fault.Shut) answers working e = absurd (false≢true (sym working ∙ answers.only_shut refl))
blob_failed was now cause (Err fault.WriteFault) answers working e = absurd (answers.no_write refl)
blob_failed was now cause (Err (fault.NoBlocks b)) answers working e = absurd (answers.no_blocks b refl)

-- and one that went well doesn't
pub blob_read : {T : Type 0} (was now : Bool) (cause : Type 0) (r : Result T StoreFault) → ReadAnswers was now cause r → is_err r ≡ false → now ≡ was
blob_read was now cause (Ok x) answers e = answers.ok
blob_read was now cause (Err w) answers e = absurd (false≢true (sym e))

pub went_well : {T : Type 0} {P : Type 0} (r : Result T StoreFault) → is_err r ≡ false → OnOk r P → P
went_well (Ok x) e p = p
went_well (Err w) e p = absurd (false≢true (sym e))
