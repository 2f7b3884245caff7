-- How a kernel goes from one entry of its history to the next.
use Rattle.std.specs.Prelude.{◌≡◌, ℕ, ◌+◌, ◌≤◌, false, List, [], ◌∷◌, ◌++◌, count_by, length, Some, None}
use Rattle.edge_disk.specs.declared.disk.Disk.{Ghosts}
use Rattle.edge_tally.specs.Counts.{CountsOn}
use Rattle.edge_disk.specs.Moments.{LeavesOnly}
use Rattle.base_types.specs.declared.histories.Entry.{Entry}
use Rattle.base_types.specs.declared.histories.Event.TheVariants.{Snap, Stable, Tried}
use Rattle.kernel_invariant.specs.store_books.Between.{OnlyPages}
use Rattle.kernel_invariant.specs.store_books.Owning.{AreOwned}
use Rattle.kernel_invariant.specs.Beginnings.{Beginning, IsLegal, completed}
use Rattle.kernel_invariant.specs.Left.{StoresNext}
use Rattle.kernel_invariant.specs.Marks.{completes, is_step}
use Rattle.kernel_invariant.specs.Live.{Follows, HoldsCommits, KernelView}
use Rattle.kernel_invariant.specs.declared.stopping.Stopped.{Stopped}

-- the history is a legal run, and the cells are what it makes
pub record IsRight (b : Beginning) (k : KernelView) : Type 0 where
  pub legal : IsLegal b k.history
  pub follows : Follows b k

module _ {D : Type 0} (b : Beginning) (disks : Ghosts D) (old new : KernelView) (disk after : D) where
  -- only pages were read and written on the way; how many pages the store wrote is beside the point
  abbrev pub WentByPages : Type 0
  WentByPages = (m n : ℕ) × OnlyPages disks disk after old.books new.books m n

  -- AN EVENT: a birth or a step, with at most one write for a step
  pub record MadeEvent (e : Entry) : Type 0 where
    pub was_going : old.stop ≡ None
    pub going : new.stop ≡ None
    pub history : new.history ≡ old.history ++ e ∷ []
    pub marks : new.marks ≡ old.marks
    pub event : completes e ≡ false
    pub right : IsRight b new
    pub pages : WentByPages
    pub working : new.books.shut ≡ false
    pub owned : AreOwned new.books new.tables
    pub few : new.books.begun ≤ old.books.begun + count_by is_step (e ∷ [])

  -- A COMMIT with its Snap. A stop left what was stored, or that and the record, and its mark is the count then.
  pub record MadeSnap (e : Entry) : Type 0 where
    pub was_going : old.stop ≡ None
    pub going : new.stop ≡ None
    pub history : new.history ≡ old.history ++ e ∷ []
    pub marks : new.marks ≡ old.marks ++ new.books.begun ∷ []
    pub event : e.event ≡ Snap
    pub right : IsRight b new
    pub left : disks.tells → LeavesOnly disks disk after (StoresNext b old.history e old.books.count)
    pub stored : disks.tells → HoldsCommits b disks new after
    pub count : new.books.count ≡ old.books.count
    pub counts : CountsOn (disks.clock disk) (disks.clock after) old.books.begun new.books.begun
    pub few : new.books.begun ≤ old.books.begun + 1600

  -- A STOP without an entry, after which the kernel holds what it did
  pub record StoppedBetween : Type 0 where
    pub was_going : old.stop ≡ None
    pub why : Stopped
    pub stop : new.stop ≡ Some why
    pub history : new.history ≡ old.history
    pub marks : new.marks ≡ old.marks
    pub follows : Follows b new
    pub pages : WentByPages

  -- PAGES AND BLOBS WERE READ: nothing was written, and the kernel holds what it did
  pub record OnlyReads : Type 0 where
    pub was_going : old.stop ≡ None
    pub going : new.stop ≡ None
    pub history : new.history ≡ old.history
    pub marks : new.marks ≡ old.marks
    pub follows : Follows b new
    pub pages : WentByPages
    pub working : new.books.shut ≡ false
    pub owned : AreOwned new.books new.tables
    pub none_written : new.books.begun ≡ old.books.begun

  -- A COMMIT THAT FAILED: its record may or may not be found, and the history ends with its Tried
  pub record StoppedAtCommit (e : Entry) : Type 0 where
    pub was_going : old.stop ≡ None
    pub why : Stopped
    pub stop : new.stop ≡ Some why
    pub history : new.history ≡ old.history ++ e ∷ []
    pub marks : new.marks ≡ old.marks
    pub event : e.event ≡ Tried
    pub right : IsRight b new
    pub left : disks.tells → LeavesOnly disks disk after (StoresNext b old.history e old.books.count)
    pub counts : CountsOn (disks.clock disk) (disks.clock after) old.books.begun new.books.begun

-- each entry is a Snap
abbrev pub AreSnaps : List Entry → Type 0
AreSnaps [] = Unit {0}
AreSnaps (e ∷ es) = (e.event ≡ Snap) × AreSnaps es

-- A STABLE, whose records were made one by one as if it were cut short: its entry stands in the place of their Snaps, and its mark,
-- the count then, in that of theirs
pub record MadeStable (b : Beginning) (old new : KernelView) (e : Entry) : Type 0 where
  pub front : List Entry
  pub snaps : List Entry
  pub are : AreSnaps snaps
  pub was : old.history ≡ front ++ snaps
  pub first : List ℕ
  pub rest : List ℕ
  pub were : old.marks ≡ first ++ rest
  pub each : length first ≡ count_by completes front
  pub was_going : old.stop ≡ None
  pub going : new.stop ≡ None
  pub history : new.history ≡ front ++ e ∷ []
  pub marks : new.marks ≡ first ++ old.books.begun ∷ []
  pub event : e.event ≡ Stable
  pub right : IsRight b new
  pub commits : completed b (front ++ e ∷ []) ≡ completed b (front ++ snaps)
  pub books : new.books ≡ old.books
  pub tables : new.tables ≡ old.tables
