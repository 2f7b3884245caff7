-- A birth over the cells takes a kernel on.
use Rattle.std.specs.Prelude.{◌≡◌, ℕ, List, [], ◌∷◌, ◌++◌, None, slice_index}
use Rattle.edge_disk.specs.declared.disk.Disk.{Ghosts}
use Rattle.base_types.specs.declared.histories.Entry.{Entry}
use Rattle.kernel_commits.specs.model_serial.Serial.{IsNew}
use Rattle.kernel_commits.specs.store_facts.State.{State, books}
use Rattle.table_births.specs.cell_states.declared.cells.Cell.{Cell}
use Rattle.table_births.specs.table_laws.Tables.{AreClean, IsOrderly, tables_in}
use Rattle.kernel_commits.specs.kernel_record_facts.Cells.{words_on}
use Rattle.kernel_commits.specs.kernel_invariant.Beginnings.{Beginning, run_of}
use Rattle.kernel_commits.specs.kernel_laws.Going.{MadeEvent}
use Rattle.kernel_commits.specs.kernel_views.Snaps.{Stands}
use Rattle.kernel_commits.specs.kernel_views.Views.{view_of}
use Rattle.table_births.specs.Births.{BearsOn}

module _ {D : Type 0} (disks : Ghosts D) where
  -- THE NEXT BIRTH was made over the cells, beside a store that stays as it is
  pub record BearsOver (b : Beginning) (cs cs' : List Cell) (st : State D) (e : Entry) : Type 0 where
    pub bears : BearsOn b.supply (words_on (disks.reading st.disk)) b.script cs cs' e
    pub orderly : IsOrderly (books st).held cs'
    pub blocks : (x page : ℕ) → slice_index (tables_in cs' x) page ≡ slice_index (tables_in cs x) page

  -- THE LAW: a kernel whose run is in its births goes on by it
  abbrev pub BirthLaw : Type 0
  BirthLaw = (b : Beginning) (cs cs' : List Cell) (st : State D) (es : List Entry) (marks : List ℕ) (e : Entry) → disks.tells
      → Stands disks b cs st es marks → IsNew (run_of b es) → BearsOver b cs cs' st e
      → MadeEvent b disks (view_of disks.reading b cs st es marks None)
      (view_of disks.reading b cs' st (es ++ e ∷ []) marks None) st.disk st.disk e
      × AreClean b.supply (words_on (disks.reading st.disk)) cs'
