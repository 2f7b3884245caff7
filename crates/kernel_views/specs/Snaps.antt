-- A commit of one cell takes a kernel on.
use Rattle.std.specs.Prelude.{◌≡◌, ℕ, not, List, [], ◌∷◌, ◌++◌, None, Some}
use Rattle.edge_disk.specs.declared.disk.Disk.{Ghosts}
use Rattle.edge_disk.specs.Moments.{LeavesOnly}
use Rattle.base_types.specs.declared.histories.Entry.{Entry}
use Rattle.base_types.specs.declared.histories.Event.TheVariants.{Snap, Tried}
use Rattle.kernel_records.specs.model_kernel.Histories.{MayCommit, is_full, mark}
use Rattle.kernel_laws.specs.store_books.Books.{AreTrue}
use Rattle.kernel_records.specs.store_facts.State.{State, books}
use Rattle.kernel_records.specs.cell_states.declared.cells.Cell.{Cell}
use Rattle.table_laws.specs.Tables.{AreClean, IsOrderly}
use Rattle.table_laws.specs.Lending.{Lends}
use Rattle.kernel_records.specs.kernel_record_facts.Cells.{IsSpellable, words_on}
use Rattle.kernel_records.specs.cell_wish_laws.Founded.{IsFoundedCell}
use Rattle.kernel_records.specs.Committing.{CommitCounts, HasCommitted, HasNotCommitted, LeavesCell, StoresKeptOrCell}
use Rattle.kernel_records.specs.Snapping.{has_room}
use Rattle.kernel_laws.specs.kernel_invariant.Beginnings.{Beginning, run_of}
use Rattle.kernel_laws.specs.kernel_invariant.Live.{IsRunning}
use Rattle.kernel_laws.specs.kernel_invariant.declared.stopping.Stopped.TheVariants.{WriteFault}
use Rattle.kernel_laws.specs.Going.{MadeSnap, StoppedAtCommit}
use Rattle.kernel_views.specs.Views.{view_of}

module _ {D : Type 0} (disks : Ghosts D) where
  -- A KERNEL STANDS with these cells, this store, this history and these marks: it runs, its cells are in order, and their pages are clean
  pub record Stands (b : Beginning) (cs : List Cell) (st : State D) (es : List Entry) (marks : List ℕ) : Type 0 where
    pub runs : IsRunning b disks (view_of disks.reading b cs st es marks None) st.disk
    pub orderly : IsOrderly (books st).held cs
    pub clean : AreClean b.supply (words_on (disks.reading st.disk)) cs

  -- WHAT A COMMIT OF ONE CELL LEFT, which stands in the cells' place of its entity
  pub record LeavesOne (cs cs' : List Cell) (c d : Cell) (old new : State D) : Type 0 where
    pub lends : Lends cs cs' (c ∷ []) (d ∷ [])
    pub spellable : IsSpellable c
    pub moments : LeavesOnly disks old.disk new.disk (StoresKeptOrCell disks c d old)
    pub counts : CommitCounts disks old new

  -- A RECORD OF THE CELL was committed
  pub record CommitsOne (cs cs' : List Cell) (c d : Cell) (old new : State D) : Type 0 where
    pub left : LeavesOne cs cs' c d old new
    pub committed : HasCommitted disks c d old new
    pub true_books : AreTrue disks (books new) new.disk

  -- THE LAW: with its Snap such a commit takes the kernel on, where a commit of the entity may be next
  abbrev pub SnapLaw : Type 0
  SnapLaw = (b : Beginning) (cs cs' : List Cell) (c d : Cell) (old new : State D) (es : List Entry) (marks : List ℕ) → disks.tells
      → Stands b cs old es marks → (run_of b es).tried ≡ None → MayCommit b.policy (run_of b es) c.clock.entity
      → CommitsOne cs cs' c d old new
      → MadeSnap b disks (view_of disks.reading b cs old es marks None)
      (view_of disks.reading b cs' new (es ++ mark Snap c.clock.entity c.clock.version ∷ []) (marks ++ (books new).begun ∷ []) None)
      old.disk new.disk (mark Snap c.clock.entity c.clock.version)
      × AreClean b.supply (words_on (disks.reading new.disk)) cs'

  -- THE LAW: where the commit failed, the kernel stops with its Tried
  abbrev pub TriedLaw : Type 0
  TriedLaw = (b : Beginning) (cs cs' : List Cell) (c d : Cell) (old new : State D) (es : List Entry) (marks : List ℕ) → disks.tells
      → Stands b cs old es marks → (run_of b es).tried ≡ None → MayCommit b.policy (run_of b es) c.clock.entity
      → LeavesOne cs cs' c d old new → HasNotCommitted disks c d old new
      → StoppedAtCommit b disks (view_of disks.reading b cs old es marks None)
      (view_of disks.reading b cs' new (es ++ mark Tried c.clock.entity c.clock.version ∷ []) marks (Some WriteFault))
      old.disk new.disk (mark Tried c.clock.entity c.clock.version)

  -- THE LAW: whatever came of it, and whatever the disk tells, the cells are in order
  abbrev pub OrderLaw : Type 0
  OrderLaw = (cs cs' : List Cell) (c d : Cell) (old new : State D) → IsOrderly (books old).held cs → Lends cs cs' (c ∷ []) (d ∷ [])
      → IsFoundedCell d → LeavesCell disks c d old new → IsOrderly (books new).held cs'

  -- THE LAW: the store of a kernel that stands has room for a record of an entity exactly where the entity isn't full
  abbrev pub FullLaw : Type 0
  FullLaw = (b : Beginning) (cs : List Cell) (st : State D) (es : List Entry) (marks : List ℕ) (x : ℕ) → disks.tells
      → Stands b cs st es marks → has_room (books st) x ≡ not (is_full (run_of b es) x)
