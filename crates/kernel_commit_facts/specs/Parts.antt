-- What a kernel is made of.
use Rattle.std.specs.Prelude.{ℕ, List, Option}
use Rattle.edge_disk.specs.declared.disk.Disk.{Ghosts}
use Rattle.base_types.specs.declared.histories.Entry.{Entry}
use Rattle.table_steps.specs.cell_states.declared.cells.Cell.{Cell}
use Rattle.kernel_book_laws.specs.store_facts.State.{State}
use Rattle.kernel_book_laws.specs.kernel_invariant.Beginnings.{Beginning}
use Rattle.kernel_book_laws.specs.kernel_invariant.Live.{IsLive}
use Rattle.kernel_book_laws.specs.kernel_invariant.declared.stopping.Stopped.{Stopped}
use Rattle.kernel_book_laws.specs.kernel_views.Snaps.{Stands}
use Rattle.kernel_book_laws.specs.kernel_views.Views.{view_of}

-- the history with its marks, and for how many entries and marks there is room in all
pub record Noted : Type 0 where
  pub entries : List Entry
  pub marks : List ℕ
  pub room : ℕ

-- its store, its cells, and what was noted
pub record Parts (D : Type 0) : Type 0 where
  pub store : State D
  pub cells : List Cell
  pub noted : Noted

abbrev pub parts_of : {D : Type 0} → State D → List Cell → Noted → Parts D
parts_of store cells noted = record { store = store; cells = cells; noted = noted }

module _ {D : Type 0} (disks : Ghosts D) where
  -- the kernel that they are goes on from there
  abbrev pub StandsAs : Beginning → Parts D → Type 0
  StandsAs b p = Stands disks b p.cells p.store p.noted.entries p.noted.marks

  -- it is live, or has stopped for this
  abbrev pub LivesAs : Beginning → Parts D → Option Stopped → Type 0
  LivesAs b p stop = IsLive b disks (view_of disks.reading b p.cells p.store p.noted.entries p.noted.marks stop) p.store.disk
