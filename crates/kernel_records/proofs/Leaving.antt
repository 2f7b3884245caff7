-- What a commit leaves, from what its stages leave.
use Rattle.std.proofs.Common.{◌≡◌, inl, ℕ, ◌+◌, ◌≤◌, Bool, true, false, List, refl, ◌∙◌, arith}
use Rattle.edge_disk.specs.declared.disk.Disk.{Ghosts}
use Rattle.edge_disk.specs.Image.{Image}
use Rattle.kernel_block_laws.specs.store_books.Between.{Between-stay}
use Rattle.kernel_record_facts.specs.cell_blobs.Blobs.{IsFormed, blob_need, page_need}
use Rattle.kernel_block_laws.specs.store_books.Books.{free_in, kept_names}
use Rattle.store_snapshots.specs.store_facts.Committed.{HasFailedShut, SameUsed}
use Rattle.store_snapshots.specs.store_facts.State.{HoldsPoolBlocks, State, books}
use Rattle.cell_wish_laws.specs.page_memory.Calls.{Keeps}
use Rattle.cell_wish_laws.specs.page_memory.declared.paged.PagedMemory.{PagedMemory}
use Rattle.cell_wish_laws.specs.cell_states.declared.cells.Cell.{Cell}
use Rattle.cell_wish_laws.specs.cell_states.declared.cells.Part.{Part}
use Rattle.cell_wish_laws.specs.cell_states.declared.cells.Part.TheVariants as part
use Rattle.kernel_record_facts.specs.Cells.{IsSettled, IsSoundIn, words_on}
use Rattle.kernel_records.specs.Committing.{HasCommitted, HasNotCommitted, HasPages, HasRecord, HoldsSame, IsSpelt, LeavesCell}
use Rattle.kernel_records.specs.Flushing.{Flushes}
use Rattle.kernel_records.proofs.Freeing.{record_frees}
use Rattle.kernel_records.proofs.Rests.{held_pages}
use Rattle.kernel_records.proofs.Spelling.{same_need}
use Rattle.kernel_records.proofs.Staying.{clean_stays, held_words, part_stays}

-- NOTHING IS WRITTEN

module _ {B : Type 0} (tells : Type 0) (held kept : B → ℕ → Bool) (words : B → ℕ → List ℕ) where
  keeps_itself : (m : PagedMemory) (b : B) → Keeps tells held kept words m m b b
  keeps_itself m b = record {
    same_kept = refl;
    held_stay = λ n is_held out. (is_held, out);
    no_others = λ n is_held out. (is_held, out);
    held_words = λ t n is_held out. refl;
    kept_words = λ t n is_kept. refl;
    news = λ page. inl refl;
  }

  flushes_itself : (p : Part) (b : B) → Flushes tells held kept words p p b b
  flushes_itself (part.Atlas a) b = record { part = refl; store = refl }
  flushes_itself (part.Container a) b = (
    a,
    refl,
    record {
      same_head = refl;
      pages = record { same_tag = refl; same_pages = refl; same_frames = refl; same_blocks = λ page none. refl; none_changed = λ page is. is };
      outside = keeps_itself a.memory b;
    },
  )
  flushes_itself (part.Locus l) b = record { part = refl; store = refl }

module _ {D : Type 0} (disks : Ghosts D) where
  -- pages are written, and behind them what is in use stays
  pub leaves_cell : (c d : Cell) (old mid new : State D) → HasPages disks c.part d.part old mid → HoldsPoolBlocks (books mid) → HoldsSame (books mid) (books new)
      → (disks.tells → SameUsed (books mid) (disks.reading mid.disk) (disks.reading new.disk)) → d.clock ≡ c.clock → d.left ≡ c.left → LeavesCell disks c d old new
  leaves_cell c d old mid new pages pool holds same_used same_clock same_left = record {
    flushed = mid;
    pages = pages;
    pool = pool;
    holds = holds;
    same_used = same_used;
    held_words = agree;
    means = λ t s clean.
        let m = pages.means t s clean in (
          part_stays s (books mid).held (words_on (disks.reading mid.disk)) (words_on (disks.reading new.disk)) (agree t) d.part pages.table ∙ m.0,
          clean_stays s (books mid).held (words_on (disks.reading mid.disk)) (words_on (disks.reading new.disk)) (agree t) d.part pages.table m.1,
        );
    same_clock = same_clock;
    same_left = same_left;
  }
    where
      agree : disks.tells → (n : ℕ) → (books mid).held n ≡ true → words_on (disks.reading new.disk) n ≡ words_on (disks.reading mid.disk) n
      agree t = held_words (books mid) (disks.reading mid.disk) (disks.reading new.disk) (same_used t) (λ n is_held. (pool n is_held).0)

  -- a store that is left as it is
  pub not_committed : (c : Cell) (st : State D) → IsSoundIn (books st).held c.part → HoldsPoolBlocks (books st) → ((image : Image) → disks.tells → disks.left_since st.disk (disks.clock st.disk) image → disks.may_leave st.disk image)
      → HasNotCommitted disks c c st st
  not_committed c st sound pool only_now = record {
    leaves = leaves_cell c c st st st (record {
      flushes = flushes_itself disks.tells (λ (x : State D). (books x).held) (λ (x : State D). kept_names (books x)) (λ (x : State D). words_on (disks.reading x.disk)) c.part st;
      only = Between-stay disks st.disk (books st) (books st).begun only_now;
      table = sound;
      means = λ t s clean. (refl, clean);
    }) pool (record { same_held = refl; same_found = refl; same_count = refl }) (λ t n low used. refl) refl refl;
    same_logged = refl;
    only_part = refl;
  }

  -- a write of the record that failed
  pub failed_commit : (c : Cell) (q : Part) (old mid new : State D) → HasPages disks c.part q old mid → HoldsPoolBlocks (books mid)
      → (disks.tells → SameUsed (books mid) (disks.reading mid.disk) (disks.reading new.disk)) → HasFailedShut (books mid) (books new) → HasNotCommitted disks c (record c { part = q }) old new
  failed_commit c q old mid new pages pool same_used failed = record {
    leaves = leaves_cell c (record c { part = q }) old mid new pages pool (record { same_held = failed.same_held; same_found = failed.same_found; same_count = failed.same_count }) same_used refl refl;
    same_logged = failed.same_logged ∙ pages.only.same_logged;
    only_part = refl;
  }

  -- a write of a page that failed
  pub failed_pages : (c : Cell) (q : Part) (old mid : State D) → HasPages disks c.part q old mid → HoldsPoolBlocks (books mid) → HasNotCommitted disks c (record c { part = q }) old mid
  failed_pages c q old mid pages pool = record {
    leaves = leaves_cell c (record c { part = q }) old mid mid pages pool (record { same_held = refl; same_found = refl; same_count = refl }) (λ t n low used. refl) refl refl;
    same_logged = pages.only.same_logged;
    only_part = refl;
  }

  -- a record that was made; then no other is wished
  pub made_commit : (c : Cell) (q : Part) (old mid new : State D) → HasPages disks c.part q old mid → HoldsPoolBlocks (books mid)
      → (disks.tells → SameUsed (books mid) (disks.reading mid.disk) (disks.reading new.disk)) → HasRecord disks (record c { part = q }) mid new → IsSpelt (record c { part = q }) → IsSettled q
      → free_in (books old) ≤ free_in (books mid) + page_need (kept_names (books old)) c.part → IsFormed c.part
      → HasCommitted disks c (record c { part = q; wish = record { by_step = false; asked = false; newest = c.clock.version } }) old new
  unfolding leaves_cell
  made_commit c q old mid new pages pool same_used has spelt settled few formed =
      let d : Cell = record c { part = q; wish = record { by_step = false; asked = false; newest = c.clock.version } } in
      record {
        leaves = leaves_cell c d old mid new pages pool (record { same_held = has.made.same_held; same_found = has.made.same_found; same_count = has.made.same_count }) same_used refl refl;
        has = record { made = has.made; blob = has.blob; small = has.small };
        spelt = record { spells = spelt.spells; components = spelt.components };
        settled = settled;
        recorded = record { same_clock = refl; same_left = refl; wish = refl };
        free = (
            let more : free_in (books mid) ≤ free_in (books new) + blob_need q = record_frees (books mid) (books new) _ _ _ _ _ has.made (held_pages (books mid).held q pages.table) in
            let same : blob_need q ≡ blob_need c.part =
            same_need disks.tells (λ (x : State D). (books x).held) (λ (x : State D). kept_names (books x)) (λ (x : State D). words_on (disks.reading x.disk)) (books mid).held c.part q old mid pages.flushes pages.table formed in
            omega (arith, few, more, same));
      }
