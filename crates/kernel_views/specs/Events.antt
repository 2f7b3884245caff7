-- A step over the cells takes a kernel on.
use Rattle.std.specs.Prelude.{◌≡◌, ℕ, ◌+◌, ◌<◌, ◌≤◌, false, List, [], ◌∷◌, ◌++◌, None, Some, slice_get}
use Rattle.edge_disk.specs.declared.disk.Disk.{Ghosts}
use Rattle.base_types.specs.declared.histories.Entry.{Entry}
use Rattle.kernel_records.specs.model_kernel.Histories.{Run}
use Rattle.kernel_laws.specs.store_books.Between.{OnlyPages}
use Rattle.kernel_laws.specs.store_books.Books.{kept_names}
use Rattle.kernel_records.specs.store_facts.State.{State, books}
use Rattle.kernel_records.specs.cell_states.declared.cells.Cell.{Cell}
use Rattle.table_laws.specs.Steps.{GoesOn}
use Rattle.table_laws.specs.Tables.{AreClean, AreNumbered, HasNews, HasTableWishes, IsOrderly, state_in, tables_in}
use Rattle.kernel_records.specs.kernel_record_facts.Cells.{words_on}
use Rattle.kernel_laws.specs.kernel_invariant.Beginnings.{Beginning}
use Rattle.kernel_laws.specs.kernel_invariant.Live.{IsCalm}
use Rattle.kernel_laws.specs.kernel_invariant.declared.stopping.Stopped.{Stopped}
use Rattle.kernel_laws.specs.Going.{MadeEvent, StoppedBetween}
use Rattle.kernel_views.specs.Snaps.{Stands}
use Rattle.kernel_views.specs.Views.{view_of}

module _ {D : Type 0} (disks : Ghosts D) where
  -- A LOCUS MADE A STEP over the cells, for which only pages were read and written, at most one of them written
  pub record StepsOver (b : Beginning) (me : ℕ) (cs cs' : List Cell) (old new : State D) (e : Entry) : Type 0 where
    pub goes : GoesOn b.supply (words_on (disks.reading old.disk)) (words_on (disks.reading new.disk)) me cs cs' e
    pub orderly : IsOrderly (books new).held cs'
    pub news : HasNews (kept_names (books old)) (tables_in cs) (tables_in cs')
    pub before : ℕ
    pub after : ℕ
    pub pages : OnlyPages disks old.disk new.disk (books old) (books new) before after
    pub one_write : after ≤ before + 1
    pub working : (books new).shut ≡ false
    pub locus : Cell
    pub at : slice_get cs me ≡ Some locus
    pub left : 0 < locus.left

  -- THE LAW: a kernel at rest goes on by such a step
  abbrev pub EventLaw : Type 0
  EventLaw = (b : Beginning) (me : ℕ) (cs cs' : List Cell) (old new : State D) (es : List Entry) (marks : List ℕ) (e : Entry) → disks.tells
      → Stands disks b cs old es marks → IsCalm b es
      → StepsOver b me cs cs' old new e
      → MadeEvent b disks (view_of disks.reading b cs old es marks None)
      (view_of disks.reading b cs' new (es ++ e ∷ []) marks None) old.disk new.disk e
      × AreClean b.supply (words_on (disks.reading new.disk)) cs'

  -- A KERNEL STOPS between entries: pages were read and written, and the cells are what they were
  pub record StopsOver (b : Beginning) (cs cs' : List Cell) (old new : State D) : Type 0 where
    pub numbers : AreNumbered cs'
    pub state : state_in b.supply (words_on (disks.reading new.disk)) cs' ≡ state_in b.supply (words_on (disks.reading old.disk)) cs
    pub wishes : (steps : ℕ) (r : Run) → HasTableWishes steps r cs → HasTableWishes steps r cs'
    pub before : ℕ
    pub after : ℕ
    pub pages : OnlyPages disks old.disk new.disk (books old) (books new) before after

  -- THE LAW: then it keeps its history and its marks, whatever it stopped for
  abbrev pub StopLaw : Type 0
  StopLaw = (b : Beginning) (cs cs' : List Cell) (old new : State D) (es : List Entry) (marks : List ℕ) (why : Stopped)
      → Stands disks b cs old es marks → StopsOver b cs cs' old new
      → StoppedBetween b disks (view_of disks.reading b cs old es marks None) (view_of disks.reading b cs' new es marks (Some why)) old.disk new.disk
