-- What a commit leaves of a cell, and what its record tells.
use Rattle.std.proofs.Common.{ℕ, Bool, List, length, refl, sym, ap, subst, ◌∙◌}
use Rattle.std.specs.Prelude.{IfSome}
use Rattle.edge_disk.specs.declared.disk.Disk.{Ghosts}
use Rattle.page_store.specs.model_kernel.State.{KernelState, Supply}
use Rattle.kernel_record_facts.specs.image_meaning.Parts.{Spells}
use Rattle.kernel_record_facts.specs.image_meaning.Stores.{Kept}
use Rattle.kernel_block_laws.specs.store_books.Books.{kept_for, kept_names}
use Rattle.store_snapshots.specs.store_facts.State.{State, books}
use Rattle.cell_wish_laws.specs.cell_clocks.declared.Clock.{Clock}
use Rattle.cell_wish_laws.specs.cell_clocks.Clocks.{HasClock}
use Rattle.cell_wish_laws.specs.cell_states.declared.cells.Cell.{Cell}
use Rattle.cell_wish_laws.specs.cell_states.Cells.{HasCell}
use Rattle.kernel_record_facts.specs.cell_blobs.Blobs.{spelt_in}
use Rattle.kernel_record_facts.specs.Cells.{IsCleanIn, IsSoundIn, IsSpellable, table_of, words_on}
use Rattle.kernel_record_facts.proofs.Telling.{told}
use Rattle.kernel_records.specs.Committing.{HasCommitted, LeavesCell}
use Rattle.kernel_records.specs.Told.{IsStill, IsTold}
use Rattle.kernel_records.proofs.Spelling.{spellable_again}

module _ {D : Type 0} (disks : Ghosts D) where
  pub left_cell : (s : Supply) (w : KernelState) (c d : Cell) (old new : State D) → disks.tells → LeavesCell disks c d old new
      → HasCell s (words_on (disks.reading old.disk)) w c → IsCleanIn s (words_on (disks.reading old.disk)) c.part → IsStill disks.reading s w d new
  left_cell s w c d old new t h has clean =
      let m = h.means t s clean in
      record {
        has = record {
          part = ap (λ (x : Clock). (w x.entity).cell) h.same_clock ∙ (has.part ∙ sym m.0);
          clock = subst (λ (x : Clock). HasClock w x) (sym h.same_clock) has.clock;
        };
        clean = m.1;
        table = subst (λ (held : ℕ → Bool). IsSoundIn held d.part) (sym h.holds.same_held) h.pages.table;
      }

  pub told_commit : (s : Supply) (w : KernelState) (c d : Cell) (old new : State D) → disks.tells → (h : HasCommitted disks c d old new) → IsSpellable c
      → HasCell s (words_on (disks.reading old.disk)) w c → IsCleanIn s (words_on (disks.reading old.disk)) c.part → IsTold disks.reading s w d new h.has.made.rec
  told_commit s w c d old new t h may has clean = record {
    still = now;
    tells_of = told s (disks.reading new.disk) (books new).held w d k now.has spellable (record { table = now.table; clean = now.clean; settled = h.settled }) (record {
      entity = h.has.made.entity_is;
      version = h.has.made.version_is;
      stamp = h.has.made.stamp_is;
      components = ap length h.has.made.stamp_is ∙ h.spelt.components;
      spells = subst (λ (bytes : List ℕ). IfSome (spelt_in d.part) (λ p. Spells p bytes)) (sym (h.has.blob t)) h.spelt.spells;
      pages = refl;
    });
  }
    where
      k : Kept
      k = kept_for (disks.reading new.disk) (record { rec = h.has.made.rec; table = table_of d.part })

      now : IsStill disks.reading s w d new
      now = left_cell s w c d old new t h.leaves has clean

      spellable : IsSpellable d
      spellable = spellable_again disks.tells (λ (st : State D). (books st).held) (λ (st : State D). kept_names (books st)) (λ (st : State D). words_on (disks.reading st.disk)) (books h.leaves.flushed).held c d old h.leaves.flushed h.leaves.same_clock h.leaves.pages.flushes h.leaves.pages.table may
