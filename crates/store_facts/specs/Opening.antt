-- What opening an image leaves of the disk, and what is known of a store behind it.
use Rattle.std.specs.Prelude.{◌≡◌, ℕ, ◌≤◌, Bool, false, true, List, [], ◌∷◌, replicate, slice_index}
use Rattle.edge_disk.specs.declared.disk.Disk.{Ghosts}
use Rattle.edge_disk.specs.Disk.{Only, Ticks}
use Rattle.edge_disk.specs.Moments.{LeavesOnly}
use Rattle.base_types.specs.declared.records.Rec.{Rec}
use Rattle.log_reading.specs.image_facts.Layout.{pool_at}
use Rattle.edge_tally.specs.declared.Tally.{Tally}
use Rattle.page_words.specs.image_meaning.Parts.{cut_of}
use Rattle.log_reading.specs.Logs.{IsKnown, IsLogOf}
use Rattle.log_reading.specs.declared.log.ImageLog.{ImageLog}
use Rattle.log_reading.specs.image_facts.Logs.{AreFitting}
use Rattle.log_reading.specs.image_blocks.Logs.{HasFront, HasLog}
use Rattle.data_blocks.specs.Ledger.{Ledger}
use Rattle.store_facts.specs.State.{State, books}
use Rattle.page_words.specs.store_books.Books.{Books, Logged, recs_in}

-- whether there are records
abbrev pub is_some_rec : List Rec → Bool
is_some_rec [] = false
is_some_rec (r ∷ recs) = true

-- a record whose blob isn't read yet
abbrev pub unread : Rec → Logged
unread r = record { rec = r; table = replicate 256 0 }

-- the blocks of an image of so many, of which none is held, and each counts as named where there are records
abbrev pub fresh_ledger : ℕ → List Rec → Ledger
fresh_ledger blocks recs = record { first = pool_at; end = blocks; held = replicate blocks false; names = replicate blocks 0; all_named = is_some_rec recs }

-- one sync was begun, and no write: what is read is as before, and a stop at any moment leaves nothing new
pub record SyncsOnly {D : Type 0} (disks : Ghosts D) (old new : D) : Type 0 where
  pub same_count : disks.block_count new ≡ disks.block_count old
  pub one : Ticks (disks.clock old) (disks.clock new)
  pub later : disks.faults old ≤ disks.faults new
  pub same_reading : disks.tells → disks.reading new ≡ disks.reading old
  pub moments : disks.tells → LeavesOnly disks old new (disks.may_leave old)

-- THE LOG STANDS ALONE on the disk: the image that reads has a good front of so many blocks and these fitting records in its log, and a stop
-- leaves no other image
pub record HasStableLog {D : Type 0} (disks : Ghosts D) (b : Books) (disk : D) : Type 0 where
  pub front : HasFront b.count b.place (disks.reading disk)
  pub log : HasLog b.place (recs_in b) (disks.reading disk)
  pub fit : AreFitting b.count (recs_in b)
  pub stable : Only (disks.reading disk) (disks.may_leave disk)

-- A LOG THAT WAS READ behind a sync of the disk, which was only read since then: the one sync is counted, the image has this log, and a
-- stop leaves that image alone
pub record IsSynced {D : Type 0} (disks : Ghosts D) (disk : D) (tally : Tally) (log : ImageLog) : Type 0 where
  pub known : IsKnown (disks.block_count disk) log
  pub one : tally.0 ≡ 1
  pub has_log : disks.tells → IsLogOf (disks.reading disk) log
  pub stable : disks.tells → Only (disks.reading disk) (disks.may_leave disk)

-- a store of this log: its records, none of whose blobs is read yet, at its place, in an image of as many blocks, whose pool is what
-- the store has the books of
pub record IsOver {D : Type 0} (log : ImageLog) (st : State D) : Type 0 where
  pub recs : recs_in (books st) ≡ log.recs.items
  pub count : (books st).count ≡ log.blocks
  pub place : (books st).place ≡ record { active = log.area; epoch = log.epoch }
  pub first : st.blocks.first ≡ pool_at
  pub cut : slice_index st.cut.0 ≡ cut_of log.recs.items

-- a store as it was opened: no block is held or was named by a record, and each counts as named where there are records, no number was too large, the disk hasn't failed, one sync was begun, and no page
-- was read
pub record IsFresh {D : Type 0} (st : State D) : Type 0 where
  pub found : (books st).found ≡ is_some_rec (recs_in (books st))
  pub none_held : (n : ℕ) → (books st).held n ≡ false
  pub unnamed : (n : ℕ) → slice_index st.blocks.names n ≡ 0
  pub small : (books st).small ≡ true
  pub working : (books st).shut ≡ false
  pub one : (books st).begun ≡ 1
  pub none_read : st.read_calls ≡ 0
