-- THE INVARIANT of a running kernel.
use Rattle.std.specs.Prelude.{◌≡◌, ℕ, ◌+◌, ◌-◌, ◌*◌, ◌<◌, ◌≤◌, ◌^◌, Bool, false, List, [], length, count_by, Option, Some, None, slice_get}
use Rattle.edge_disk.specs.declared.disk.Disk.{Ghosts}
use Rattle.store_books.specs.base_types.declared.histories.Entry.{Entry}
use Rattle.model_sound_states.specs.model_kernel.Histories.{births_owed, is_due}
use Rattle.model_sound_states.specs.model_kernel.State.{KernelState}
use Rattle.store_books.specs.Books.{AreSmall, AreTrue, Books, kept_of}
use Rattle.store_books.specs.Owning.{AreOwned}
use Rattle.kernel_invariant.specs.Beginnings.{Beginning, BeginsRight, IsLegal, completed, run_of, state_after}
use Rattle.kernel_invariant.specs.Left.{LeavesCuts}
use Rattle.kernel_invariant.specs.Marks.{AreMarks, is_step}
use Rattle.kernel_invariant.specs.Records.{AreKeptRecords}
use Rattle.kernel_invariant.specs.declared.stopping.Stopped.{Stopped}

-- THE KERNEL as contracts see it: each entity as its cell holds it, a container's words by frames, blocks and supplier; the page table
-- of each container; per entity the version of its newest record, what its wish comes from, and the steps left; the history with its
-- marks; why it stopped; and its store's books
pub record KernelView : Type 0 where
  pub state : KernelState
  pub tables : ℕ → List ℕ
  pub newest : ℕ → ℕ
  pub by_step : ℕ → Bool
  pub asked : ℕ → Bool
  pub left : ℕ → ℕ
  pub history : List Entry
  pub marks : List ℕ
  pub stop : Option Stopped
  pub books : Books

-- The cells are what the rules say.
pub record Follows (b : Beginning) (k : KernelView) : Type 0 where
  pub state : k.state ≡ state_after b k.history
  pub newest : k.newest ≡ (run_of b k.history).newest
  pub by_step : k.by_step ≡ (run_of b k.history).by_step
  pub asked : k.asked ≡ (run_of b k.history).asked
  pub left : (x : ℕ) → k.left x + (run_of b k.history).steps x ≡ b.script.steps

-- The kernel is at rest: nothing is owed, tried or due.
pub record IsCalm (b : Beginning) (es : List Entry) : Type 0 where
  pub births_made : births_owed b.script (run_of b es) ≡ false
  pub nothing_owed : (run_of b es).owed ≡ None
  pub not_tried : (run_of b es).tried ≡ None
  pub nothing_due : (x : ℕ) → is_due b.policy (run_of b es) x ≡ false

-- The store works, and holds the history's commits from their cut on; the blocks have one owner each.
pub record HoldsCommits {D : Type 0} (b : Beginning) (disks : Ghosts D) (k : KernelView) (disk : D) : Type 0 where
  pub working : k.books.shut ≡ false
  pub looked : k.books.found ≡ false
  pub books : AreTrue disks k.books disk
  pub small : AreSmall k.books
  -- a commit turns the log once at most, and so did the opening
  pub epoch : k.books.place.epoch ≤ 2 ^ 61 + 1 + length (completed b k.history)
  pub owned : AreOwned k.books k.tables
  pub records : AreKeptRecords b k.history (completed b k.history) (kept_of (disks.reading disk) k.books)

-- Marks don't fall, up to the count of writes and syncs begun, which is within a bound of commits and steps while the kernel goes on.
pub record HasMarks (b : Beginning) (k : KernelView) : Type 0 where
  pub each : AreMarks b.supply b.script b.state k.history k.marks
  pub top : (i mark : ℕ) → slice_get k.marks i ≡ Some mark → mark ≤ k.books.begun
  pub few : k.stop ≡ None → k.books.begun + 1600 * length (completed b []) ≤ 1600 * (length (completed b k.history) + 1) + count_by is_step k.history

-- A KERNEL BETWEEN ITS ENTRIES, in the words of the disk: the history is a legal run, the cells are what it makes, the store holds its
-- commits, and a stop at any moment since the first left a cut that holds all commits acknowledged by then. Of the store of a kernel
-- that has stopped nothing is said.
pub record IsRunning {D : Type 0} (b : Beginning) (disks : Ghosts D) (k : KernelView) (disk : D) : Type 0 where
  pub begins : BeginsRight b
  pub legal : IsLegal b k.history
  pub follows : Follows b k
  pub marks : HasMarks b k
  pub stored : disks.tells → k.stop ≡ None → HoldsCommits b disks k disk
  pub time : disks.clock disk < 2 ^ 64 - 1 → disks.clock disk ≡ b.since + k.books.begun
  pub later : b.first ≤ disks.clock disk
  pub moments : disks.tells → LeavesCuts b disks k.history k.marks disk

-- THE INVARIANT: and nothing is owed, tried or due, unless it has stopped
pub record IsLive {D : Type 0} (b : Beginning) (disks : Ghosts D) (k : KernelView) (disk : D) : Type 0 where
  pub running : IsRunning b disks k disk
  pub calm : k.stop ≡ None → IsCalm b k.history
