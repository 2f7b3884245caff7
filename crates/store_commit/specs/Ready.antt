-- When a store is ready to commit, told by its books.
use Rattle.std.specs.Prelude.{◌≡◌, ℕ, ◌≤◌, ◌<◌, if◌then◌else◌, nat_lt, Bool, true, false, ◌&&◌, List, [], ◌∷◌, ◌++◌, length, take, drop, All, slice_index}
use Rattle.std.specs.List.{concat, flat_map}
use Rattle.edge_disk.specs.declared.disk.Disk.{Ghosts}
use Rattle.edge_disk.specs.Disk.{Only}
use Rattle.edge_disk.specs.Image.{Image}
use Rattle.base_types.specs.declared.records.Rec.{Rec}
use Rattle.store_books.specs.image_facts.Bodies.{blocks_for}
use Rattle.store_books.specs.image_facts.Layout.{most_blocks, pool_at, slot_count}
use Rattle.store_books.specs.image_facts.Logs.{IsInRange}
use Rattle.store_books.specs.log_turn.Standing.{Stands, begun_of, epoch_of, place_of, used_of}
use Rattle.store_books.specs.log_turn.declared.areas.Areas.{Areas}
use Rattle.store_books.specs.Books.{AreHeldPages, AreSmall, AreTrue, Books, Logged, is_small, is_used, kept_in, kept_of, logged_recs, page_for, recs_in}
use Rattle.store_commit.specs.Storing.{HasLogged, IsReady, Next, new_of, roomy_log}

-- the books are true of the disk, which hasn't failed, and the areas stand at their place
pub record AreAt {D : Type 0} (disks : Ghosts D) (b : Books) (areas : Areas) (disk : D) : Type 0 where
  pub true_books : AreTrue disks b disk
  pub working : b.shut ≡ false
  pub place : place_of areas ≡ b.place
  pub used : length (recs_in b) ≡ used_of areas

-- the record is in range behind the log, these blocks are its blob of these bytes, none of the blocks that it names is in use, and
-- each page's block in the table is held, in the pool
pub record CanCommit (b : Books) (r : Rec) (blob : List (List ℕ)) (bytes table : List ℕ) : Type 0 where
  pub count : b.count ≤ most_blocks
  pub range : IsInRange b.count (recs_in b) r
  pub many : length blob ≡ blocks_for r.length
  pub spelled : take r.length (concat blob) ≡ bytes
  pub rest : All (λ x. x ≡ 0) (drop r.length (concat blob))
  pub free : (i : ℕ) → i < length blob → is_used b (slice_index r.blocks i) ≡ false
  pub held : (n : ℕ) → b.held n ≡ true → pool_at ≤ n
  pub pages : AreHeldPages b.held table

-- what a commit of a record with this blob and these pages is about
abbrev pub next_in : Image → Books → List ℕ → List ℕ → Next
next_in image b bytes table = record { count = b.count; recs = recs_in b; ks = kept_of image b; bytes = bytes; pages = flat_map (page_for image) table }

-- THE LAW: a store with true books, of which no number is too large, is ready for a record that it can commit, with the kept records
-- of its books
abbrev pub ReadyLaw : {D : Type 0} → Ghosts D → Type 0
ReadyLaw {D = D} disks = (b : Books) (areas : Areas) (disk : D) (r : Rec) (blob : List (List ℕ)) (bytes table : List ℕ) → AreAt disks b areas disk → AreSmall b
    → CanCommit b r blob bytes table → IsReady disks (next_in (disks.reading disk) b bytes table) areas (logged_recs (kept_in b)) r blob disk

-- BEHIND A COMMIT

-- the log that a commit appends to, with its tables: the kept records where all slots are used
abbrev pub roomy_logged : ℕ → Books → List Logged
roomy_logged used b = if nat_lt used slot_count then b.logged else kept_in b

-- the books then: one record more, of which it is told whether its numbers are small, at the place where the areas stand
abbrev pub books_after : Books → Areas → Areas → Rec → List ℕ → Bool → Books
books_after b areas after r table small = record b { logged = roomy_logged (used_of areas) b ++ record { rec = r; table = table } ∷ []; place = place_of after; small = b.small && small; begun = begun_of after }

-- what a commit that succeeds leaves: the areas stand for the log with the record behind, all is stable, and where the store was
-- ready the kept records and the new one are stored
pub record HasCommitted {D : Type 0} (disks : Ghosts D) (b : Books) (areas after : Areas) (r : Rec) (blob : List (List ℕ)) (bytes table : List ℕ) (old new : D) : Type 0 where
  pub stands : Stands disks after (roomy_log (used_of areas) (recs_in b) (logged_recs (kept_in b)) ++ r ∷ []) new
  pub stable : Only (disks.reading new) (disks.may_leave new)
  pub epoch : epoch_of areas ≤ epoch_of after
  pub stored : IsReady disks (next_in (disks.reading old) b bytes table) areas (logged_recs (kept_in b)) r blob old
      → HasLogged disks b.count after (roomy_log (used_of areas) (recs_in b) (logged_recs (kept_in b)) ++ r ∷ []) (kept_of (disks.reading old) b ++ new_of (next_in (disks.reading old) b bytes table) r ∷ []) new

-- THE LAW: true books stay true through a commit, where the store can commit the record if its numbers are small. Of the kept records
-- that they then tell of, the choice may have risen.
abbrev pub TrueAfterLaw : {D : Type 0} → Ghosts D → Type 0
TrueAfterLaw {D = D} disks = (b : Books) (areas after : Areas) (old new : D) (r : Rec) (blob : List (List ℕ)) (bytes table : List ℕ) → AreAt disks b areas old
    → (is_small r ≡ true → CanCommit b r blob bytes table) → HasCommitted disks b areas after r blob bytes table old new → AreTrue disks (books_after b areas after r table (is_small r)) new
