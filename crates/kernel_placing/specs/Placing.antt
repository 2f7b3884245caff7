-- Pages put into free blocks of a store of snapshots.
use Rattle.std.specs.Prelude.{◌≡◌, ℕ, ◌==◌, if◌then◌else◌, List}
use Rattle.edge_disk.specs.declared.disk.Disk.{Ghosts}
use Rattle.edge_disk.specs.Image.{block_at}
use Rattle.data_blocks.specs.Ledger.{is_held}
use Rattle.page_placing.specs.page_store.declared.store.PageStore.{Ghosts as Pages}
use Rattle.page_placing.specs.Placing.{TakesBlocks}
use Rattle.store_snapshots.specs.Paging.{GoesByPages}
use Rattle.store_snapshots.specs.store_books.Books.{free_in, kept_names, words_of_bytes}
use Rattle.store_snapshots.specs.store_books.Owning.{AreOwned, NamesPage}
use Rattle.store_snapshots.specs.store_facts.State.{State, books}

-- a store of snapshots as a store of pages sees it
abbrev pub stores_of : {D : Type 0} → Ghosts D → Pages (State D)
stores_of {D = D} disks = record {
  tells = disks.tells;
  held = λ (st : State D). is_held st.blocks;
  kept_names = λ (st : State D). kept_names (books st);
  words = λ (st : State D) n. words_of_bytes (block_at (disks.reading st.disk) n);
  free = λ (st : State D). free_in (books st);
  is_shut = λ (st : State D). st.shut;
  faults = λ (st : State D). disks.faults st.disk;
  written = λ (st : State D). (books st).begun;
  read_calls = λ (st : State D). st.read_calls;
  Pages = GoesByPages disks;
}

-- the tables, with one in the place of an entity's
abbrev pub with_table : (ℕ → List ℕ) → ℕ → List ℕ → ℕ → List ℕ
with_table tables entity table x = if x == entity then table else tables x

-- THE LAW: blocks that were free are the entity's, which had none
abbrev pub PlacedOwnersLaw : {D : Type 0} → Ghosts D → Type 0
PlacedOwnersLaw {D = D} disks = (many : ℕ) (table : List ℕ) (old mid : State D) (tables : ℕ → List ℕ) (entity : ℕ) → TakesBlocks (stores_of disks) many table old mid
    → ((n : ℕ) → NamesPage (tables entity) n → ⊥) → AreOwned (books old) tables → (books mid).logged ≡ (books old).logged → (books mid).count ≡ (books old).count
    → AreOwned (books mid) (with_table tables entity table)
