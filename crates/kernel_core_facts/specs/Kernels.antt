-- A kernel, as contracts see it.
use Rattle.std.specs.Prelude.{◌≡◌, ℕ, ◌+◌, ◌≤◌, ◌^◌, false, List, [], ◌++◌, Option, Some, None, slice_get}
use Rattle.edge_disk.specs.declared.disk.Disk.{Ghosts}
use Rattle.edge_disk.specs.declared.disk.NoBlocks.{NoBlocks}
use Rattle.base_types.specs.declared.histories.Entry.{Entry}
use Rattle.table_births.specs.model_kernel.State.{Supply}
use Rattle.table_births.specs.cell_states.declared.cells.Cell.{Cell}
use Rattle.table_births.specs.table_laws.Tables.{AreClean, IsOrderly}
use Rattle.kernel_commits.specs.kernel_record_facts.Cells.{words_on}
use Rattle.kernel_commits.specs.store_facts.State.{State, books}
use Rattle.kernel_commits.specs.kernel_invariant.Beginnings.{Beginning}
use Rattle.kernel_commits.specs.kernel_book_laws.Matching.{version_of}
use Rattle.kernel_commits.specs.kernel_commit_facts.Lacking.{LacksIn}
use Rattle.kernel_commits.specs.kernel_commit_facts.Parts.{LivesAs, Parts}
use Rattle.kernel_commits.specs.kernel_commit_facts.Pieces.{StopsIn}
use Rattle.kernel_commits.specs.kernel_commit_facts.Steady.{IsSound, IsSteady}
use Rattle.kernel_commits.specs.kernel_invariant.declared.stopping.Stopped.{Stopped}
use Rattle.kernel_commits.specs.kernel_invariant.declared.stopping.Stopped.TheVariants as reason

-- its parts, and why it has stopped, if it has
pub record Held (D : Type 0) : Type 0 where
  pub parts : Parts D
  pub stop : Option Stopped

-- WHAT IS TRUE OF EVERY KERNEL: its cells are in order, and while it goes on it is steady
pub record IsKept {D : Type 0} (disks : Ghosts D) (k : Held D) : Type 0 where
  pub orderly : IsOrderly (books k.parts.store).held k.parts.cells
  pub steady : k.stop ≡ None → IsSteady disks k.parts

-- nothing of it was run yet: no wish is open, and each may make so many steps
abbrev pub AreFresh : ℕ → List Cell → Type 0
AreFresh steps cs = (x : ℕ) (c : Cell) → slice_get cs x ≡ Some c → (c.left ≡ steps) × (c.wish.by_step ≡ false) × (c.wish.asked ≡ false)

-- A KERNEL MAY BEGIN with this store and these cells
pub record MayBegin {D : Type 0} (disks : Ghosts D) (steps : ℕ) (st : State D) (cs : List Cell) : Type 0 where
  pub sound : IsSound disks (λ _. 4) (record { store = st; cells = cs; noted = record { entries = []; marks = []; room = 0 } })
  pub fresh : AreFresh steps cs
  pub steps_few : steps ≤ 40000
  pub versions : (x : ℕ) → version_of cs x ≤ 2 ^ 62
  pub epoch : (books st).place.epoch ≤ 2 ^ 62 + 1

-- while the kernel goes on its pages are clean, where the disk tells its content
abbrev pub StaysClean : {D : Type 0} → Ghosts D → Supply → Held D → Type 0
StaysClean disks supply k = disks.tells → k.stop ≡ None → AreClean supply (words_on (disks.reading k.parts.store.disk)) k.parts.cells

module _ {D : Type 0} (disks : Ghosts D) where
  -- THE KERNEL IS LIVE in a run, and while it goes on its pages are clean
  pub record Lives (b : Beginning) (k : Held D) : Type 0 where
    pub live : LivesAs disks b k.parts k.stop
    pub clean : k.stop ≡ None → AreClean b.supply (words_on (disks.reading k.parts.store.disk)) k.parts.cells

-- WHAT A CALL NOTED IN A RUN of a kernel that went on: where it goes on still, the whole of this piece; where it has stopped, a part of it, and for
-- want of blocks only where the image lacks them, and the next entry is short of them
pub record NotesAlong {D : Type 0} (disks : Ghosts D) (b : Beginning) (all : List Entry) (old new : Held D) : Type 0 where
  pub whole : new.stop ≡ None → new.parts.noted.entries ≡ old.parts.noted.entries ++ all
  pub part : (why : Stopped) → new.stop ≡ Some why → StopsIn b all old.parts.noted.entries new.parts.noted.entries
  pub enough : (n : NoBlocks) → new.stop ≡ Some (reason.NoBlocks n) → LacksIn disks b n all old.parts.noted.entries new.parts
