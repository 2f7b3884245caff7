-- What a stop leaves of the two commits.
use Rattle.std.proofs.Common.{◌≡◌, inl, ℕ, ◌≤◌, true, false, List, refl, ◌∙◌, arith}
use Rattle.edge_disk.specs.declared.disk.Disk.{Ghosts}
use Rattle.edge_disk.specs.Image.{Image}
use Rattle.edge_disk.specs.Moments.{LeavesOnly}
use Rattle.kernel_invariant.specs.image_meaning.Meaning.{Means}
use Rattle.kernel_invariant.specs.model_kernel.State.{KernelState, Supply, Text}
use Rattle.kernel_invariant.proofs.Stretches.{leaves_map}
use Rattle.store_copies.specs.Moments.{MeansEither}
use Rattle.kernel_copies.specs.Pairs.{CommitsFirst}
use Rattle.kernel_copies.proofs.Pairing.{first_moments, pair_done, pair_moments}
use Rattle.kernel_records.specs.cell_states.declared.cells.Cell.{Cell}
use Rattle.kernel_record_facts.specs.cell_blobs.Blobs.{bytes_of, spelt_in}
use Rattle.kernel_record_facts.specs.Cells.{table_of}
use Rattle.kernel_records.specs.Committing.{HasRecord, IsSpelt}
use Rattle.kernel_records.specs.store_books.Books.{AreSmall, AreTrue}
use Rattle.kernel_records.specs.store_facts.Committed.{SameUsed, StoresKeptOrMore}
use Rattle.kernel_records.specs.store_facts.Putting.{are_small}
use Rattle.kernel_records.specs.store_facts.State.{State, books}
use Rattle.copy_commits.specs.Committing.{AreCopyCells, MayCommitPair}
use Rattle.copy_commits.proofs.Coming.{committed_by}
use Rattle.copy_commits.proofs.Telling.{may_atlas, may_copy}

module _ {D : Type 0} (disks : Ghosts D) (s : Supply) (name fresh : Text) (v w : KernelState) (old mid : State D) (tables : ℕ → List ℕ) (a n : Cell)
    (t : disks.tells) (may : MayCommitPair (books old) a n) (are : AreCopyCells s name fresh v w (disks.reading old.disk) (books old) tables a n) (spelt : IsSpelt a)
    (one : AreSmall (books old) → are_small a.clock.version a.clock.stamp.0 ≡ true
    → LeavesOnly disks old.disk mid.disk (StoresKeptOrMore (disks.reading old.disk) (books old) a.clock.entity a.clock.version a.clock.stamp.0 (bytes_of (spelt_in a.part)) (table_of a.part))) where
  -- the first commit, made or failed
  pub by_first : LeavesOnly disks old.disk mid.disk (MeansEither s v w)
  by_first = leaves_map disks old.disk mid.disk (λ c. Means s c v) (MeansEither s v w) (λ c m. inl m)
      (first_moments disks s name fresh v w old.disk (books old) tables a.clock.entity a.clock.version a.clock.stamp.0 (bytes_of (spelt_in a.part)) (table_of a.part)
      (may_atlas s name fresh v w (disks.reading old.disk) (books old) tables a n may are spelt) mid.disk (one are.small are.atlas.fits))

  module _ (new : State D) (spelt_n : IsSpelt n) (right : AreTrue disks (books old) old.disk) (working : (books old).shut ≡ false)
      (made : HasRecord disks a old mid) (same : SameUsed (books old) (disks.reading old.disk) (disks.reading mid.disk)) (right_mid : AreTrue disks (books mid) mid.disk)
      (two : AreSmall (books mid) → are_small n.clock.version n.clock.stamp.0 ≡ true
      → LeavesOnly disks mid.disk new.disk (StoresKeptOrMore (disks.reading mid.disk) (books mid) n.clock.entity n.clock.version n.clock.stamp.0 (bytes_of (spelt_in n.part)) (table_of n.part)))
      (only_now : (d : D) (c : Image) → disks.tells → disks.left_since d (disks.clock d) c → disks.may_leave d c) where
    first : CommitsFirst disks old.disk mid.disk (books old) (books mid) a.clock.entity a.clock.version a.clock.stamp.0 (bytes_of (spelt_in a.part)) (table_of a.part)
    first = record { committed = committed_by disks a old mid t made; same_used = same; small = made.small; true_books = right_mid; working = made.made.working }

    small_mid : AreSmall (books mid)
    small_mid = record {
      recs = made.small ∙ (let x = are.small.recs in let y = are.atlas.fits in rw (x, y) refl);
      epoch = (let rise = made.made.epoch.1 in let low = are.epoch in omega (arith, rise, low));
    }

    pub by_both : LeavesOnly disks old.disk new.disk (MeansEither s v w)
    by_both = pair_moments disks only_now s name fresh v w old.disk mid.disk (books old) (books mid) tables a.clock.entity a.clock.version a.clock.stamp.0 (bytes_of (spelt_in a.part)) (table_of a.part)
        n.clock.entity n.clock.version n.clock.stamp.0 (bytes_of (spelt_in n.part)) (table_of n.part) t right working
        (may_copy s name fresh v w (disks.reading old.disk) (books old) tables a n may are spelt spelt_n) first new.disk
        (one are.small are.atlas.fits) (two small_mid are.copy.fits)

    module _ (made2 : HasRecord disks n mid new) (same2 : SameUsed (books mid) (disks.reading mid.disk) (disks.reading new.disk)) (right_new : AreTrue disks (books new) new.disk)
        (counts_now : (d : D) (k : ℕ) (c : Image) → disks.tells → k ≤ disks.clock d → disks.may_leave d c → disks.left_since d k c) where
      pub behind_both : (c : Image) → disks.may_leave new.disk c → Means s c w
      behind_both = pair_done disks only_now s name fresh v w old.disk mid.disk (books old) (books mid) tables a.clock.entity a.clock.version a.clock.stamp.0 (bytes_of (spelt_in a.part)) (table_of a.part)
          n.clock.entity n.clock.version n.clock.stamp.0 (bytes_of (spelt_in n.part)) (table_of n.part) t right working
          (may_copy s name fresh v w (disks.reading old.disk) (books old) tables a n may are spelt spelt_n) first new.disk (books new)
          (record {
            committed = committed_by disks n mid new t made2;
            same_used = same2;
            small = made2.small;
            fits = are.copy.fits;
            epoch = (let rise = made.made.epoch.1 in let low = are.epoch in omega (arith, rise, low));
            true_books = right_new;
            working = made2.made.working;
          }) counts_now (two small_mid are.copy.fits)
