-- What a contract sees of a store.
use Rattle.std.specs.Prelude.{◌≡◌, ℕ, ◌<◌, ◌≤◌, Bool, true, false, List, length, slice_index}
use Rattle.base_types.specs.declared.records.Cut.{Cut}
use Rattle.log_reading.specs.image_facts.Layout.{most_blocks, pool_at, slot_count}
use Rattle.page_words.specs.log_turn.Standing.{begun_of, has_failed, place_of, used_of}
use Rattle.page_words.specs.log_turn.declared.areas.Areas.{Areas}
use Rattle.data_blocks.specs.Ledger.{Ledger, is_held}
use Rattle.store_facts.specs.Keeping.{AreKept, AreListed}
use Rattle.page_words.specs.store_books.Books.{Books, Logged}

-- the disk, the areas of its log, the records of the log with the blocks of their pages, those of them that are kept, the greatest closed
-- choice of them, which blocks are in use, whether no number was too large, whether the disk failed, and how often a page was read
pub record State (D : Type 0) : Type 0 where
  pub disk : D
  pub areas : Areas
  pub log : List Logged
  pub kept : List Logged
  pub cut : Cut
  pub blocks : Ledger
  pub small : Bool
  pub shut : Bool
  pub read_calls : ℕ

abbrev pub state_of : {D : Type 0} → D → Areas → List Logged → List Logged → Cut → Ledger → Bool → Bool → ℕ → State D
state_of disk areas log kept cut blocks small shut read_calls =
    record { disk = disk; areas = areas; log = log; kept = kept; cut = cut; blocks = blocks; small = small; shut = shut; read_calls = read_calls }

-- THE BOOKS
abbrev pub books : {D : Type 0} → State D → Books
books st = record {
  count = st.blocks.end;
  logged = st.log;
  place = place_of st.areas;
  held = is_held st.blocks;
  found = st.blocks.all_named;
  small = st.small;
  shut = st.shut;
  begun = begun_of st.areas;
}

-- each block that is held is one of the pool
abbrev pub HoldsPoolBlocks : Books → Type 0
HoldsPoolBlocks b = (n : ℕ) → b.held n ≡ true → (pool_at ≤ n) × (n < b.count)

-- WHAT IS TRUE OF EVERY STORE. The image has a pool, and its disk at least its blocks. The ledger is of the pool's blocks: it tells which are
-- held, and once the blobs of found records are read it counts how often kept records name each. The log has a record for each used slot at
-- most, the kept records are those at or above the choice, which is the greatest one. Until the disk failed the areas work, and have as many
-- slots used as there are records.
pub record IsWhole {D : Type 0} (block_count : D → ℕ) (st : State D) : Type 0 where
  pub within : st.blocks.end ≤ block_count st.disk
  pub enough : pool_at ≤ st.blocks.end
  pub most : st.blocks.end ≤ most_blocks
  pub first : st.blocks.first ≡ pool_at
  pub sized : length st.blocks.names ≡ st.blocks.end
  pub marked : length st.blocks.held ≡ st.blocks.end
  pub held : HoldsPoolBlocks (books st)
  pub few : length st.log ≤ slot_count
  pub kept : AreKept st.log st.kept (slice_index st.cut.0)
  pub listed : st.blocks.all_named ≡ false → AreListed st.blocks st.kept
  pub working : st.shut ≡ false → has_failed st.areas ≡ false
  pub used : st.shut ≡ false → length st.log ≡ used_of st.areas
