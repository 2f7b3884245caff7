-- The commit of a cell: what it asks, and what it leaves.
use Rattle.std.specs.Prelude.{◌≡◌, ◌↔◌, ◌⊎◌, ℕ, ◌+◌, ◌<◌, ◌≤◌, ◌^◌, ◌&&◌, true, false, All, IfSome, IsErrOf, Result, length}
use Rattle.edge_disk.specs.declared.disk.Disk.{Ghosts}
use Rattle.edge_tally.specs.Counts.{CountsOn}
use Rattle.edge_disk.specs.Counts.{Rose}
use Rattle.edge_disk.specs.Image.{Image}
use Rattle.edge_disk.specs.declared.disk.NoBlocks.{NoBlocks}
use Rattle.base_types.specs.declared.records.Rec.{Rec}
use Rattle.page_store.specs.model_kernel.State.{Supply}
use Rattle.kernel_block_laws.specs.image_facts.Bodies.{blob_in}
use Rattle.kernel_block_laws.specs.image_facts.Layout.{slot_count}
use Rattle.kernel_record_facts.specs.image_meaning.Parts.{Spells}
use Rattle.kernel_record_facts.specs.image_meaning.Stores.{Stores}
use Rattle.kernel_block_laws.specs.store_books.Between.{OnlyPages}
use Rattle.kernel_block_laws.specs.store_books.Books.{Books, free_in, kept_in, kept_names, kept_of, recs_in}
use Rattle.store_snapshots.specs.store_facts.Committed.{HasNewRecord, SameUsed, StoresMoreInFreeBlocks}
use Rattle.store_snapshots.specs.store_facts.Putting.{are_small}
use Rattle.store_snapshots.specs.store_facts.State.{HoldsPoolBlocks, State, books}
use Rattle.store_snapshots.specs.declared.faults.StoreFault.{StoreFault}
use Rattle.store_snapshots.specs.declared.faults.StoreFault.TheVariants as fault
use Rattle.data_stamps.specs.Stamps.{component}
use Rattle.cell_wish_laws.specs.cell_states.declared.cells.Cell.{Cell}
use Rattle.cell_wish_laws.specs.cell_states.declared.cells.Part.{Part}
use Rattle.cell_wish_laws.specs.cell_states.Cells.{part_of}
use Rattle.cell_wish_laws.specs.Founded.{IsRecordedNow}
use Rattle.kernel_record_facts.specs.cell_blobs.Blobs.{blob_need, bytes_of, need_in, page_need, spelt_in}
use Rattle.kernel_record_facts.specs.Cells.{IsCleanIn, IsSettled, IsSoundIn, IsSpellable, table_of, words_on}
use Rattle.kernel_records.specs.Flushing.{Flushes}

-- A RECORD OF THE CELL MAY BE MADE: it has a spelling, its version is its own component of its clock and above those of its records,
-- its page blocks are held, each once, and the log's books are read and have room.
pub record MayCommit (b : Books) (c : Cell) : Type 0 where
  pub spellable : IsSpellable c
  pub own : component c.clock.stamp c.clock.entity ≡ c.clock.version
  pub some : 1 ≤ c.clock.version
  pub newer : All (λ (r : Rec). r.entity ≡ c.clock.entity → r.version < c.clock.version) (recs_in b)
  pub table : IsSoundIn b.held c.part
  pub read : b.found ≡ false
  pub room : length (kept_in b) < slot_count
  pub epoch : b.place.epoch < 2 ^ 63

-- the bytes spell the cell's part, and its clock has a component for each entity
pub record IsSpelt (c : Cell) : Type 0 where
  pub spells : IfSome (spelt_in c.part) (λ p. Spells p (bytes_of (spelt_in c.part)))
  pub components : length c.clock.stamp.0 ≡ 64

-- as many blocks as the image has, the same are held, and the blobs of found records are read or not as before
pub record HoldsSame (old new : Books) : Type 0 where
  pub same_held : new.held ≡ old.held
  pub same_found : new.found ≡ old.found
  pub same_count : new.count ≡ old.count

module _ {D : Type 0} (disks : Ghosts D) where
  -- the part is what it was with each supplier, and its pages are clean
  abbrev pub KeepsMeaning : Part → Part → State D → State D → Type 0
  KeepsMeaning p q old new = (s : Supply) → IsCleanIn s (words_on (disks.reading old.disk)) p
      → (part_of s (words_on (disks.reading new.disk)) q ≡ part_of s (words_on (disks.reading old.disk)) p) × IsCleanIn s (words_on (disks.reading new.disk)) q

  -- THE PAGES of a part ARE WRITTEN, all or some of them: from the one store to the other nothing but pages was written, and the part has
  -- its blocks there
  pub record HasPages (p q : Part) (old new : State D) : Type 0 where
    pub flushes : Flushes disks.tells (λ (st : State D). (books st).held) (λ (st : State D). kept_names (books st)) (λ (st : State D). words_on (disks.reading st.disk)) p q old new
    pub only : OnlyPages disks old.disk new.disk (books old) (books new) (books old).begun (books new).begun
    pub table : IsSoundIn (books new).held q
    pub means : disks.tells → KeepsMeaning p q old new

  -- WHAT A COMMIT OF THE CELL LEAVES, whatever the disk tells and whatever comes of it: pages are written, and behind that the same blocks
  -- are held, all of them of the pool, and what kept records and working page tables name stays as it is. The cell has the same clock, and
  -- means what it did.
  pub record LeavesCell (c d : Cell) (old new : State D) : Type 0 where
    pub flushed : State D
    pub pages : HasPages c.part d.part old flushed
    pub pool : HoldsPoolBlocks (books flushed)
    pub holds : HoldsSame (books flushed) (books new)
    pub same_used : disks.tells → SameUsed (books flushed) (disks.reading flushed.disk) (disks.reading new.disk)
    pub held_words : disks.tells → (n : ℕ) → (books flushed).held n ≡ true → words_on (disks.reading new.disk) n ≡ words_on (disks.reading flushed.disk) n
    pub means : disks.tells → KeepsMeaning c.part d.part old new
    pub same_clock : d.clock ≡ c.clock
    pub same_left : d.left ≡ c.left

  -- the books have a record of the cell more, in blocks that weren't in use, and its blob reads as the cell is spelt
  pub record HasRecord (c : Cell) (old new : State D) : Type 0 where
    pub made : HasNewRecord c.clock.entity c.clock.version (length (bytes_of (spelt_in c.part))) c.clock.stamp.0 (table_of c.part) (books old) (books new)
    pub blob : disks.tells → blob_in (disks.reading new.disk) made.rec ≡ bytes_of (spelt_in c.part)
    pub small : (books new).small ≡ ((books old).small && are_small c.clock.version c.clock.stamp.0)

  -- A COMMIT of the cell: its pages are written, none is changed any more, and behind them its record; no more blocks are taken than these
  -- need
  pub record HasCommitted (c d : Cell) (old new : State D) : Type 0 where
    pub leaves : LeavesCell c d old new
    pub has : HasRecord d leaves.flushed new
    pub spelt : IsSpelt d
    pub settled : IsSettled d.part
    pub recorded : IsRecordedNow c d
    pub free : free_in (books old) ≤ free_in (books new) + (page_need (kept_names (books old)) c.part + blob_need c.part)

  -- NO RECORD came in memory: the log is the same, and of the cell nothing but the part is another
  pub record HasNotCommitted (c d : Cell) (old new : State D) : Type 0 where
    pub leaves : LeavesCell c d old new
    pub same_logged : (books new).logged ≡ (books old).logged
    pub only_part : d ≡ record c { part = d.part }

  -- the image stores what was kept, and a record of the cell whose pages are written
  pub record StoresCell (c d : Cell) (old : State D) (image : Image) : Type 0 where
    pub flushed : State D
    pub pages : HasPages c.part d.part old flushed
    pub more : StoresMoreInFreeBlocks (disks.reading flushed.disk) (books flushed) d.clock.entity d.clock.version d.clock.stamp.0 (bytes_of (spelt_in d.part)) (table_of d.part) image
    pub spelt : IsSpelt d
    pub settled : IsSettled d.part

  abbrev pub StoresKeptOrCell : Cell → Cell → State D → Image → Type 0
  StoresKeptOrCell c d old image = Stores (books old).count (kept_of (disks.reading old.disk) (books old)) image ⊎ StoresCell c d old image

-- how a commit counts: so many writes and syncs at most, and the image has as many blocks as before
pub record CommitCounts {D : Type 0} (disks : Ghosts D) (old new : State D) : Type 0 where
  pub few : (books new).begun ≤ (books old).begun + 1556
  pub counts : CountsOn (disks.clock old.disk) (disks.clock new.disk) (books old).begun (books new).begun
  pub later : disks.faults old.disk ≤ disks.faults new.disk
  pub same_count : (books new).count ≡ (books old).count

-- fewer blocks are free in a store that works than a record of the cell needs; both numbers
pub record IsCellShort (c : Cell) (b : Books) (n : NoBlocks) : Type 0 where
  pub working : b.shut ≡ false
  pub fewer : free_in b < need_in (kept_names b) c
  pub numbers : n ≡ record { need = need_in (kept_names b) c; free = free_in b }

-- WHICH FAULT COMES WHEN, all of them only where a record is to be made: Shut exactly of a store that is shut, and NoBlocks exactly where
-- fewer blocks are free than are needed, and then nothing is changed; WriteFault only where the count of faults rose, and then the store is
-- shut; nothing else goes wrong
pub record CellFaults {D T : Type 0} (faults : D → ℕ) (is_made : Type 0) (result : Result T StoreFault) (c d : Cell) (old new : State D) : Type 0 where
  pub shut : IsErrOf result fault.Shut ↔ (is_made × ((books old).shut ≡ true))
  pub no_blocks : (b : NoBlocks) → IsErrOf result (fault.NoBlocks b) ↔ (is_made × IsCellShort c (books old) b)
  pub untouched : IsErrOf result fault.Shut ⊎ ((b : NoBlocks) × IsErrOf result (fault.NoBlocks b)) → (d ≡ c) × (new ≡ old)
  pub write_fault : IsErrOf result fault.WriteFault → is_made × Rose (faults old.disk) (faults new.disk) × ((books new).shut ≡ true)
  pub no_read : IsErrOf result fault.ReadFault → ⊥
