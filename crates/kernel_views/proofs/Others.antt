-- What a commit of one cell leaves of the others.
use Rattle.std.proofs.Common.{◌≡◌, ◌≢◌, ℕ, Bool, true, List, slice_get, slice_index, Option, Some, None, refl, sym, ap, subst, ◌∙◌}
use Rattle.kernel_records.specs.model_kernel.State.{Supply}
use Rattle.kernel_laws.specs.store_books.Books.{kept_names}
use Rattle.kernel_records.specs.store_facts.State.{State, books}
use Rattle.kernel_records.specs.page_memory.declared.paged.PagedMemory.{PagedMemory}
use Rattle.kernel_records.specs.page_memory.Words.{AreCleanTrue, IsSoundTable, block_at}
use Rattle.kernel_records.specs.page_memory.Calls.{IsOfTable}
use Rattle.kernel_records.specs.cell_states.declared.cells.Cell.{Cell}
use Rattle.kernel_records.specs.cell_states.declared.cells.Part.{Part}
use Rattle.kernel_records.specs.cell_states.declared.cells.Part.TheVariants as part
use Rattle.kernel_records.specs.cell_states.Cells.{part_of}
use Rattle.table_laws.specs.cell_calls.Besides.{memory_of}
use Rattle.table_laws.specs.cell_blob_laws.Memories.{HasOwnMemory}
use Rattle.table_laws.specs.Tables.{IsOrderly, blocks_by, memory_at, tables_in}
use Rattle.kernel_records.specs.kernel_record_facts.Cells.{words_on}
use Rattle.kernel_records.specs.Committing.{LeavesCell}
use Rattle.kernel_records.specs.Flushing.{Flushes}
use Rattle.kernel_views.proofs.Words.{clean_same, part_same}
use Rattle.std.proofs.lemmas.Option.{same_Some}
use Rattle.edge_disk.specs.declared.disk.Disk.{Ghosts}

-- the table of a part's own memory is sound
pub own_table : (held : ℕ → Bool) (p : Part) (m : PagedMemory) → HasOwnMemory held p → memory_of p ≡ Some m → IsSoundTable held m
own_table held (part.Atlas a) m own is = absurd (cc is)
own_table held (part.Container b) m own is = subst (IsSoundTable held) (same_Some b.memory m is) own.1
own_table held (part.Locus l) m own is = absurd (cc is)

module _ {D : Type 0} (disks : Ghosts D) (old flushed : State D) (told : disks.tells) where
  abbrev Flushed : Part → Part → Type 0
  Flushed p q = Flushes disks.tells (λ (st : State D). (books st).held) (λ (st : State D). kept_names (books st)) (λ (st : State D). words_on (disks.reading st.disk)) p q old flushed

  -- a block that is held outside the part's table is held still, with its words
  outside : (p q : Part) → Flushed p q → (n : ℕ) → (books old).held n ≡ true → ((m : PagedMemory) → memory_of p ≡ Some m → IsOfTable m n → ⊥)
      → ((books flushed).held n ≡ true) × (words_on (disks.reading flushed.disk) n ≡ words_on (disks.reading old.disk) n)
  outside (part.Atlas a) q f n held out = (ap (λ (st : State D). (books st).held n) f.store ∙ held, ap (λ (st : State D). words_on (disks.reading st.disk) n) f.store)
  outside (part.Locus l) q f n held out = (ap (λ (st : State D). (books st).held n) f.store ∙ held, ap (λ (st : State D). words_on (disks.reading st.disk) n) f.store)
  outside (part.Container a) q f n held out =
      let k = f.2.outside in
      ((k.held_stay n held (out a.memory refl)).0, k.held_words told n held (out a.memory refl))

module _ (held : ℕ → Bool) (cs : List Cell) (ord : IsOrderly held cs) where
  -- the blocks of a cell's memory are in its place's table
  pub in_table : (y : ℕ) (m : PagedMemory) → memory_at (slice_get cs y) ≡ Some m → (page : ℕ) → slice_index (tables_in cs y) page ≡ block_at m page
  in_table y m is page = ap (λ (o : Option PagedMemory). slice_index (blocks_by o) page) is

  pub held_at : (y : ℕ) (o : Option Cell) → slice_get cs y ≡ o → (m : PagedMemory) → memory_at o ≡ Some m → IsSoundTable held m
  held_at y None at m is = absurd (cc is)
  held_at y (Some e) at m is = own_table held e.part m (ord.own y e at) is

  -- and in no other's
  pub apart : (x y : ℕ) → y ≢ x → (k m : PagedMemory) → memory_at (slice_get cs x) ≡ Some k → memory_at (slice_get cs y) ≡ Some m
      → (page : ℕ) → IsOfTable k (block_at m page) → ⊥
  apart x y differs k m at_x at_y page of =
      let p = of.1.0 in
      let here : slice_index (tables_in cs x) p ≡ block_at m page = in_table x k at_x p ∙ of.1.1 in
      let both = ord.once x y p page (λ zero. of.0 (sym here ∙ zero)) (here ∙ sym (in_table y m at_y page)) in
      differs (sym both.0)

module _ {D : Type 0} (disks : Ghosts D) (told : disks.tells)
    (s : Supply) (cs : List Cell) (x : ℕ) (c d : Cell) (old new : State D) (ord : IsOrderly (books old).held cs) (at : slice_get cs x ≡ Some c)
    (l : LeavesCell disks c d old new) where
  -- the blocks of another cell's pages keep their words
  blocks_keep : (y : ℕ) → y ≢ x → (m : PagedMemory) → memory_at (slice_get cs y) ≡ Some m → (page : ℕ) → block_at m page ≢ 0
      → words_on (disks.reading new.disk) (block_at m page) ≡ words_on (disks.reading old.disk) (block_at m page)
  blocks_keep y differs m is page some =
      let sound = held_at (books old).held cs ord y (slice_get cs y) refl m is in
      let out = outside disks old l.flushed told c.part d.part l.pages.flushes (block_at m page) (sound.held_blocks page some)
      (λ k own. apart (books old).held cs ord x y differs k m (ap memory_at at ∙ own) is page) in
      l.held_words told (block_at m page) out.0 ∙ out.1

  pub other_part : (y : ℕ) (e : Cell) → y ≢ x → slice_get cs y ≡ Some e → part_of s (words_on (disks.reading new.disk)) e.part ≡ part_of s (words_on (disks.reading old.disk)) e.part
  other_part y e differs is = part_same s (words_on (disks.reading old.disk)) (words_on (disks.reading new.disk)) e.part (λ m own. blocks_keep y differs m (ap memory_at is ∙ own))

  pub other_clean : (y : ℕ) (m : PagedMemory) → y ≢ x → memory_at (slice_get cs y) ≡ Some m → AreCleanTrue s (words_on (disks.reading old.disk)) m → AreCleanTrue s (words_on (disks.reading new.disk)) m
  other_clean y m differs is clean = clean_same s (words_on (disks.reading old.disk)) (words_on (disks.reading new.disk)) m (blocks_keep y differs m is) clean
