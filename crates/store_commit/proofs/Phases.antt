-- The phases of a commit: at each moment of each the image stores the kept records, or those and the new one.
use Rattle.std.proofs.Common.{◌≡◌, ℕ, ◌<◌, ◌+◌, inl, inr, List, [], ◌∷◌, ◌++◌, length, sym, subst, ◌∙◌, arith}
use Rattle.std.specs.List.{AllByRecursion}
use Rattle.edge_disk.specs.declared.disk.Disk.{Ghosts}
use Rattle.edge_disk.specs.Disk.{Only}
use Rattle.edge_disk.specs.Image.{Image, SameOutside, block_at}
use Rattle.edge_disk.specs.Moments.{LeavesOnly, Quiet}
use Rattle.edge_disk.proofs.Phases.{LeavesOnly-from_quiet, LeavesOnly-now, LeavesOnly-weaker, Moments}
use Rattle.base_types.specs.declared.records.Rec.{Rec}
use Rattle.store_books.specs.model_cut_laws.Records.{AgreeInRecs}
use Rattle.store_books.specs.image_blocks.Layout.{gate_at, header_at, other}
use Rattle.store_books.specs.image_facts.Layout.{header_block, last_number, pool_at, slot_count}
use Rattle.store_books.specs.image_facts.Logs.{AreFitting}
use Rattle.store_books.specs.image_blocks.Logs.{HasFront, HasLog, IsNextSlot, IsTurned, IsTurning, Place, next_place}
use Rattle.store_books.proofs.image_blocks_lemmas.Reading.{log_law}
use Rattle.store_books.specs.image_meaning.Stores.{IsHeld, Kept, Stores, recs_of}
use Rattle.store_books.specs.log_facts.Stages.{IsLogging}
use Rattle.store_books.specs.log_facts.Areas.{SameAreas}
use Rattle.store_books.specs.log_turn.Standing.{Stands, place_of, used_of}
use Rattle.store_books.specs.log_turn.declared.areas.Areas.{Areas}
use Rattle.store_books.specs.Between.{stored_each}
use Rattle.store_books.specs.Books.{AreApartFrom, AreStored, IsApart, IsBeforePool}
use Rattle.store_commit.specs.Storing.{HasLogged, IsBehind, IsBlobBlock, StoresOneMore}
use Rattle.store_commit.proofs.Stays.{all_more, apart_weaker, front_next, front_same, gate_low, header_low, header_not_next, held_same, log_stays, next_low, own_header, turned_low, zero_not_next, zero_not_turned}

-- the log and the areas' headers and gates stay where no block before the pool changes
still_left : (p : Place) (recs : List Rec) (these : ℕ → Type 0) (old new d c : Image) → ((n : ℕ) → n < pool_at → these n → ⊥) → SameOutside these old new → SameOutside these d c
    → HasLog p recs d × SameAreas old d → HasLog p recs c × SameAreas new c
still_left p recs these old new d c out reads same left = (
  log_stays p recs d c (λ n low. same.same n (out n low)) left.0,
  record {
    header = λ a. (let low : header_at a < pool_at = (let l = header_low a in omega (arith, l)) in
        same.same (header_at a) (out (header_at a) low) ∙ (left.1.header a ∙ sym (reads.same (header_at a) (out (header_at a) low))));
    gate = λ a. (let low : gate_at a < pool_at = (let l = gate_low a in omega (arith, l)) in
        same.same (gate_at a) (out (gate_at a) low) ∙ (left.1.gate a ∙ sym (reads.same (gate_at a) (out (gate_at a) low))));
  },
)

-- a blob's blocks are free: in the pool, and named by no kept record
pub record AreFree (r : Rec) (many : ℕ) (ks : List Kept) : Type 0 where
  pub pool : (n : ℕ) → n < pool_at → IsBlobBlock r many n → ⊥
  pub free : AreApartFrom (IsBlobBlock r many) ks

module _ {D : Type 0} {disks : Ghosts D} (laws : Moments disks) (reads_now : (d : D) → disks.may_leave d (disks.reading d)) where
  -- the areas stand where the disk stores
  pub stands_logged : (count : ℕ) (areas : Areas) (recs : List Rec) (ks : List Kept) (disk : D) → HasLogged disks count areas recs ks disk → Stands disks areas recs disk
  stands_logged count areas recs ks disk has = record { used = has.used; log = (has.stored.left (disks.reading disk) (reads_now disk)).0; left = has.stored.left }

  -- and they stand behind the blob's writes
  pub blob_stands : (areas mid : Areas) (recs : List Rec) (r : Rec) (many : ℕ) (old new : D) → place_of mid ≡ place_of areas → used_of mid ≡ used_of areas → ((n : ℕ) → n < pool_at → IsBlobBlock r many n → ⊥)
      → Quiet disks (IsBlobBlock r many) old new → SameOutside (IsBlobBlock r many) (disks.reading old) (disks.reading new) → Stands disks areas recs old → Stands disks mid recs new
  blob_stands areas mid recs r many old new place used out quiet reads s =
      let left : (c : Image) → disks.may_leave new c → HasLog (place_of areas) recs c × SameAreas (disks.reading new) c = λ c may.
      (let was = LeavesOnly-now laws quiet c may in still_left (place_of areas) recs (IsBlobBlock r many) (disks.reading old) (disks.reading new) was.from c out reads was.same (s.left was.from was.could)) in
      let moved : (c : Image) → disks.may_leave new c → HasLog (place_of mid) recs c × SameAreas (disks.reading new) c = λ c may.
      subst (λ (p : Place). HasLog p recs c × SameAreas (disks.reading new) c) (sym place) (left c may) in
      record { used = s.used ∙ sym used; log = (moved (disks.reading new) (reads_now new)).0; left = moved }

  module _ (count : ℕ) where
    stores_from : (ks : List Kept) (p : Place) (recs : List Rec) (c : Image) → HasFront count p c → HasLog p recs c → AreFitting count recs → AgreeInRecs recs (recs_of ks) → AllByRecursion (IsHeld c) ks → Stores count ks c
    stores_from ks p recs c front log fit agree held = record { recs = recs; has = log_law count p recs c front log fit; agree = agree; held = held; blocks = front.count_is }

    pub stored_stores : (p : Place) (recs : List Rec) (ks : List Kept) (disk : D) → AreStored disks count p recs ks disk → (c : Image) → disks.may_leave disk c → Stores count ks c
    stored_stores p recs ks disk s c may = stored_each disks count p recs ks disk s c may

    -- THE TURN
    turning_stores : (p : Place) (recs kept : List Rec) (ks : List Kept) (old : D) → AreStored disks count p recs ks old → AreFitting count kept → AgreeInRecs kept (recs_of ks) → p.epoch < last_number
        → (c : Image) → IsTurning disks.may_leave p recs kept old c → Stores count ks c
    turning_stores p recs kept ks old s fit agree small c t =
        let front = s.front t.from t.could in
        let zero = t.same.same 0 (zero_not_turned p.active) in
        let held = held_same (IsTurned p.active) t.from c t.same ks (apart_weaker IsBeforePool (IsTurned p.active) ks (turned_low p.active) s.pool) (s.held t.from t.could) in
        elim t.log [
          | inl log ↦ stores_from ks p recs c (front_same count p t.from c t.same.len zero (t.same.same (header_at p.active) (own_header p.active)) front) log s.fit s.agree held
          | inr k ↦ stores_from ks (next_place p) kept c (front_next count p (next_place p) t.from c t.same.len zero k.header (omega arith) (omega (arith, small)) front) k.log fit agree held
        ]

    pub moments_turn : (p : Place) (recs kept : List Rec) (ks : List Kept) (old new : D) → AreStored disks count p recs ks old → AreFitting count kept → AgreeInRecs kept (recs_of ks) → p.epoch < last_number
        → LeavesOnly disks old new (IsTurning disks.may_leave p recs kept old) → LeavesOnly disks old new (Stores count ks)
    moments_turn p recs kept ks old new s fit agree small so_far = LeavesOnly-weaker laws (Stores count ks) (turning_stores p recs kept ks old s fit agree small) so_far

    pub turned_stored : (p : Place) (recs kept : List Rec) (ks : List Kept) (old new : D) → AreStored disks count p recs ks old → AreFitting count kept → AgreeInRecs kept (recs_of ks) → p.epoch < last_number
        → ((c : Image) → disks.may_leave new c → HasLog (next_place p) kept c × SameAreas (disks.reading new) c) → block_at (disks.reading new) (header_at (other p.active)) ≡ header_block (p.epoch + 1)
        → SameOutside (IsTurned p.active) (disks.reading old) (disks.reading new) → Only (disks.reading new) (disks.may_leave new) → AreStored disks count (next_place p) kept ks new
    turned_stored p recs kept ks old new s fit agree small left header same only =
        let now = reads_now old in
        let front : HasFront count (next_place p) (disks.reading new) =
        front_next count p (next_place p) (disks.reading old) (disks.reading new) same.len (same.same 0 (zero_not_turned p.active)) header (omega arith) (omega (arith, small)) (s.front (disks.reading old) now) in
        let held = held_same (IsTurned p.active) (disks.reading old) (disks.reading new) same ks (apart_weaker IsBeforePool (IsTurned p.active) ks (turned_low p.active) s.pool) (s.held (disks.reading old) now) in
        record {
          fit = fit;
          agree = agree;
          pool = s.pool;
          left = left;
          front = λ c may. subst (HasFront count (next_place p)) (sym (only c may)) front;
          held = λ c may. subst (λ (i : Image). AllByRecursion (IsHeld i) ks) (sym (only c may)) held;
        }

    -- THE BLOB
    module _ (p : Place) (recs : List Rec) (ks : List Kept) (r : Rec) (many : ℕ) (old new : D) (s : AreStored disks count p recs ks old) (free : AreFree r many ks)
        (quiet : Quiet disks (IsBlobBlock r many) old new) where
      blob_front : (d c : Image) → disks.may_leave old d → SameOutside (IsBlobBlock r many) d c → HasFront count p c
      blob_front d c could same =
          let low = header_low p.active in
          front_same count p d c same.len (same.same 0 (free.pool 0 (omega arith))) (same.same (header_at p.active) (free.pool (header_at p.active) (omega (arith, low)))) (s.front d could)

      pub moments_blob : LeavesOnly disks old new (Stores count ks)
      moments_blob =
          LeavesOnly-from_quiet laws (Stores count ks) quiet (λ d c could same.
          stores_from ks p recs c (blob_front d c could same) (log_stays p recs d c (λ n low. same.same n (free.pool n low)) (s.left d could).0) s.fit s.agree (held_same (IsBlobBlock r many) d c same ks free.free (s.held d could)))

      pub blob_stored : SameOutside (IsBlobBlock r many) (disks.reading old) (disks.reading new) → AreStored disks count p recs ks new
      blob_stored reads = record {
        fit = s.fit;
        agree = s.agree;
        pool = s.pool;
        left = λ c may. (let was = LeavesOnly-now laws quiet c may in still_left p recs (IsBlobBlock r many) (disks.reading old) (disks.reading new) was.from c free.pool reads was.same (s.left was.from was.could));
        front = λ c may. (let was = LeavesOnly-now laws quiet c may in blob_front was.from c was.could was.same);
        held = λ c may. (let was = LeavesOnly-now laws quiet c may in held_same (IsBlobBlock r many) was.from c was.same ks free.free (s.held was.from was.could));
      }

    -- THE APPEND
    module _ (p : Place) (recs : List Rec) (ks : List Kept) (new : Kept) (mid : D) (s : AreStored disks count p recs ks mid) (room : length recs < slot_count)
        (is_held : IsHeld (disks.reading mid) new) (apart : IsApart IsBeforePool new) (behind : IsBehind count recs ks new) where
      next_front : (d c : Image) → disks.may_leave mid d → SameOutside (IsNextSlot p.active (length recs)) d c → HasFront count p c
      next_front d c could same = front_same count p d c same.len (same.same 0 (zero_not_next p.active (length recs))) (same.same (header_at p.active) (header_not_next p.active p.active (length recs))) (s.front d could)

      next_held : (d c : Image) → disks.may_leave mid d → SameOutside (IsNextSlot p.active (length recs)) d c → AllByRecursion (IsHeld c) ks
      next_held d c could same =
          held_same (IsNextSlot p.active (length recs)) d c same ks (apart_weaker IsBeforePool (IsNextSlot p.active (length recs)) ks (λ n. next_low p.active (length recs) n room) s.pool) (s.held d could)

      more_held : (c : Image) → SameOutside (IsNextSlot p.active (length recs)) (disks.reading mid) c → AllByRecursion (IsHeld c) (ks ++ new ∷ [])
      more_held c same =
          held_same (IsNextSlot p.active (length recs)) (disks.reading mid) c same (ks ++ new ∷ [])
          (apart_weaker IsBeforePool (IsNextSlot p.active (length recs)) (ks ++ new ∷ []) (λ n. next_low p.active (length recs) n room) (all_more (IsApart IsBeforePool) ks new s.pool apart))
          (all_more (IsHeld (disks.reading mid)) ks new (s.held (disks.reading mid) (reads_now mid)) is_held)

      logging_stores : (c : Image) → IsLogging disks p recs new.rec mid c → StoresOneMore count ks new c
      logging_stores c (inl was) = inl (stores_from ks p recs c (next_front was.from c was.could was.same) was.log s.fit s.agree (next_held was.from c was.could was.same))
      logging_stores c (inr is) = inr (stores_from (ks ++ new ∷ []) p (recs ++ new.rec ∷ []) c (next_front (disks.reading mid) c (reads_now mid) is.same) is.log behind.fit behind.agree (more_held c is.same))

      pub moments_append : (end : D) → LeavesOnly disks mid end (IsLogging disks p recs new.rec mid) → LeavesOnly disks mid end (StoresOneMore count ks new)
      moments_append end so_far = LeavesOnly-weaker laws (StoresOneMore count ks new) logging_stores so_far

      pub appended_stored : (end : D) → ((c : Image) → disks.may_leave end c → HasLog p (recs ++ new.rec ∷ []) c × SameAreas (disks.reading end) c)
          → SameOutside (IsNextSlot p.active (length recs)) (disks.reading mid) (disks.reading end) → Only (disks.reading end) (disks.may_leave end) → AreStored disks count p (recs ++ new.rec ∷ []) (ks ++ new ∷ []) end
      appended_stored end left same only = record {
        fit = behind.fit;
        agree = behind.agree;
        pool = all_more (IsApart IsBeforePool) ks new s.pool apart;
        left = left;
        front = λ c may. subst (HasFront count p) (sym (only c may)) (next_front (disks.reading mid) (disks.reading end) (reads_now mid) same);
        held = λ c may. subst (λ (i : Image). AllByRecursion (IsHeld i) (ks ++ new ∷ [])) (sym (only c may)) (more_held (disks.reading end) same);
      }
