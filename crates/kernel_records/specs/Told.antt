-- THE LAWS of a cell's commit.
use Rattle.edge_disk.specs.declared.disk.Disk.{Ghosts}
use Rattle.edge_disk.specs.Image.{Image}
use Rattle.base_types.specs.declared.records.Rec.{Rec}
use Rattle.page_store.specs.model_kernel.State.{KernelState, Supply}
use Rattle.kernel_block_laws.specs.store_books.Books.{kept_for}
use Rattle.kernel_block_laws.specs.kernel_invariant.Telling.{TellsOf}
use Rattle.store_snapshots.specs.store_facts.State.{State, books}
use Rattle.cell_wish_laws.specs.cell_states.declared.cells.Cell.{Cell}
use Rattle.cell_wish_laws.specs.cell_states.Cells.{HasCell}
use Rattle.kernel_record_facts.specs.Cells.{IsCleanIn, IsSoundIn, IsSpellable, table_of, words_on}
use Rattle.kernel_records.specs.Committing.{HasCommitted, LeavesCell}

-- the state has the cell, whose pages are clean, and whose blocks are held, each once
pub record IsStill {D : Type 0} (reading : D → Image) (s : Supply) (w : KernelState) (d : Cell) (new : State D) : Type 0 where
  pub has : HasCell s (words_on (reading new.disk)) w d
  pub clean : IsCleanIn s (words_on (reading new.disk)) d.part
  pub table : IsSoundIn (books new).held d.part

-- and the record tells what the entity is there
pub record IsTold {D : Type 0} (reading : D → Image) (s : Supply) (w : KernelState) (d : Cell) (new : State D) (r : Rec) : Type 0 where
  pub still : IsStill reading s w d new
  pub tells_of : TellsOf s w (reading new.disk) (table_of d.part) (kept_for (reading new.disk) (record { rec = r; table = table_of d.part }))

-- a state that had the cell has it after its commit, also where that failed
abbrev pub LeftCellLaw : {D : Type 0} → Ghosts D → Type 0
LeftCellLaw {D = D} disks = (s : Supply) (w : KernelState) (c d : Cell) (old new : State D)
    → disks.tells → LeavesCell disks c d old new
    → HasCell s (words_on (disks.reading old.disk)) w c → IsCleanIn s (words_on (disks.reading old.disk)) c.part
    → IsStill disks.reading s w d new

abbrev pub ToldCommitLaw : {D : Type 0} → Ghosts D → Type 0
ToldCommitLaw {D = D} disks = (s : Supply) (w : KernelState) (c d : Cell) (old new : State D)
    → disks.tells → (h : HasCommitted disks c d old new) → IsSpellable c
    → HasCell s (words_on (disks.reading old.disk)) w c → IsCleanIn s (words_on (disks.reading old.disk)) c.part
    → IsTold disks.reading s w d new h.has.made.rec
