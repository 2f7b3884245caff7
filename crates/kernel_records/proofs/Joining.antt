-- A commit behind the writing of the cell's pages.
use Rattle.std.proofs.Common.{◌≡◌, ◌⊎◌, inl, inr, ℕ, ◌<◌, ◌^◌, Bool, true, false, List, length, refl, sym, ap, subst, ◌∙◌}
use Rattle.std.specs.List.{All}
use Rattle.edge_disk.specs.declared.disk.Disk.{Ghosts}
use Rattle.edge_disk.specs.Counts.{Rose}
use Rattle.edge_disk.specs.Image.{Image}
use Rattle.edge_disk.specs.Moments.{LeavesOnly}
use Rattle.base_types.specs.declared.records.Rec.{Rec}
use Rattle.kernel_block_laws.specs.image_facts.Layout.{last_number, slot_count}
use Rattle.kernel_block_laws.specs.image_blocks.Logs.{Place}
use Rattle.kernel_record_facts.specs.image_meaning.Stores.{Stores}
use Rattle.kernel_block_laws.specs.store_books.Between.{LeavesOnly-join, OnlyPages}
use Rattle.kernel_block_laws.specs.store_books.Books.{AreSmall, AreTrue, Books, Logged, kept_in, kept_of, logged_recs}
use Rattle.store_snapshots.specs.store_facts.Committed.{StoresKeptOrMore}
use Rattle.store_snapshots.specs.store_facts.State.{State, books}
use Rattle.page_store.specs.Pages.{IsWriteFault}
use Rattle.page_store.specs.declared.faults.PageFault.{PageFault}
use Rattle.page_store.specs.declared.faults.PageFault.TheVariants.{NoBlocks, ReadFault, Shut, WriteFault}
use Rattle.cell_wish_laws.specs.page_memory.Calls.{IsCausedBy}
use Rattle.cell_wish_laws.specs.cell_states.declared.cells.Cell.{Cell}
use Rattle.kernel_record_facts.specs.cell_blobs.Blobs.{bytes_of, spelt_in}
use Rattle.kernel_record_facts.specs.Cells.{IsSettled, IsSoundIn, table_of}
use Rattle.kernel_records.specs.Committing.{HasPages, IsSpelt, MayCommit, StoresKeptOrCell}
use Rattle.kernel_records.specs.Flushing.{Flushes}
use Rattle.kernel_records.proofs.Spelling.{spellable_again}

-- the kept records hang on the log alone
same_kept_in : (b b' : Books) → b'.logged ≡ b.logged → kept_in b' ≡ kept_in b
same_kept_in b b' e = ap (λ (ls : List Logged). kept_in (record b { logged = ls })) e

-- a record may be made after the cell's pages are written
pub may_again : {B : Type 0} (tells : Type 0) (held kept : B → ℕ → Bool) (words : B → ℕ → List ℕ) (x y : B) (b b' : Books) (c d : Cell) → d.clock ≡ c.clock
    → Flushes tells held kept words c.part d.part x y → IsSoundIn b'.held d.part → b'.logged ≡ b.logged → b'.place ≡ b.place → b'.found ≡ b.found → MayCommit b c → MayCommit b' (record c { part = d.part })
may_again tells held kept words x y b b' c d clock flushes table logged place found may = record {
  spellable = spellable_again tells held kept words b'.held c (record c { part = d.part }) x y refl flushes table may.spellable;
  own = may.own;
  some = may.some;
  newer = subst (λ (ls : List Logged). All (λ (r : Rec). r.entity ≡ c.clock.entity → r.version < c.clock.version) (logged_recs ls)) (sym logged) may.newer;
  table = table;
  read = found ∙ may.read;
  room = subst (λ (ls : List Logged). length ls < slot_count) (sym (same_kept_in b b' logged)) may.room;
  epoch = subst (λ (p : Place). p.epoch < 2 ^ 63) (sym place) may.epoch;
}

-- the cause of a write that failed
pub failed_by : (e : PageFault) (free before now : ℕ) (was is : Bool) → IsWriteFault e → IsCausedBy free before now was is e → was ≡ false → Rose before now × (is ≡ true)
failed_by (NoBlocks n) free before now was is (inl h) cause working = absurd (cc h)
failed_by (NoBlocks n) free before now was is (inr h) cause working = absurd (cc h)
failed_by ReadFault free before now was is h cause working = (cause.0, cause.2)
failed_by WriteFault free before now was is h cause working = (cause.0, cause.2)
failed_by Shut free before now was is h cause working = absurd (let clash : true ≡ false = sym cause ∙ working in cc clash)

pub small_on : (old new : Books) → new.small ≡ old.small → new.place ≡ old.place → AreSmall old → AreSmall new
small_on old new same place small = record { recs = same ∙ small.recs; epoch = subst (λ (p : Place). p.epoch < last_number) (sym place) small.epoch }

pub leaves_more : {D : Type 0} (disks : Ghosts D) (P Q : Image → Type 0) (a b : D) → ((c : Image) → P c → Q c) → LeavesOnly disks a b P → LeavesOnly disks a b Q
leaves_more disks P Q a b more so_far = record {
  later = so_far.later;
  each = λ c left. more c (so_far.each c left);
  before = λ t c le left. by_time (disks.left_since a t c) c (so_far.before t c le left);
}
  where
    by_time : (X : Type 0) (c : Image) → X ⊎ P c → X ⊎ Q c
    by_time X c (inl h) = inl h
    by_time X c (inr h) = inr (more c h)

module _ {D : Type 0} (disks : Ghosts D) (c d : Cell) (old mid : State D) (told : disks.tells) where
  abbrev Left : Image → Type 0
  Left = StoresKeptOrCell disks c d old

  abbrev Kept : Image → Type 0
  Kept = Stores (books old).count (kept_of (disks.reading old.disk) (books old))

  -- a stop while pages are written leaves what was kept
  pub moments_pages : OnlyPages disks old.disk mid.disk (books old) (books mid) (books old).begun (books mid).begun
      → AreTrue disks (books old) old.disk → AreSmall (books old) → (books old).shut ≡ false → LeavesOnly disks old.disk mid.disk Left
  moments_pages only right small working = leaves_more disks Kept Left old.disk mid.disk (λ image h. inl h) (only.moments told right small working)

  -- and so does one of the commit behind them, or that and the record
  pub moments_then : (new : D) → HasPages disks c.part d.part old mid → IsSpelt d → IsSettled d.part
      → AreTrue disks (books old) old.disk → AreSmall (books old) → (books old).shut ≡ false
      → LeavesOnly disks mid.disk new (StoresKeptOrMore (disks.reading mid.disk) (books mid) d.clock.entity d.clock.version d.clock.stamp.0 (bytes_of (spelt_in d.part)) (table_of d.part))
      → LeavesOnly disks old.disk new Left
  moments_then new pages spelt settled right small working second =
      LeavesOnly-join disks Left old.disk mid.disk new (moments_pages pages.only right small working)
      (leaves_more disks _ Left mid.disk new each second)
    where
      same : Stores (books mid).count (kept_of (disks.reading mid.disk) (books mid)) ≡ Kept
      same = ap (λ n. Stores n (kept_of (disks.reading mid.disk) (books mid))) pages.only.same_count ∙ ap (Stores (books old).count) (pages.only.same_kept told)

      each : (image : Image) → StoresKeptOrMore (disks.reading mid.disk) (books mid) d.clock.entity d.clock.version d.clock.stamp.0 (bytes_of (spelt_in d.part)) (table_of d.part) image → Left image
      each image (inl h) = inl (subst (λ (P : Image → Type 0). P image) same h)
      each image (inr h) = inr (record { flushed = mid; pages = pages; more = h; spelt = spelt; settled = settled })
