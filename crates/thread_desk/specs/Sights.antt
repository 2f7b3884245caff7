-- What is true of a cell whose lock is free.
use Rattle.std.specs.Prelude.{◌≡◌, ◌++◌, ℕ, List, Some}
use Rattle.edge_disk.specs.declared.disk.Disk.{Ghosts}
use Rattle.base_types.specs.declared.histories.Entry.{Entry}
use Rattle.act_look.specs.act_alone.Loci.{locus_of}
use Rattle.act_look.specs.act_alone.declared.loci.Locus.{Locus}
use Rattle.act_look.specs.model_acts.Views.{IsReadyLocus}
use Rattle.kernel_core.specs.kernel_core_facts.cell_states.declared.cells.Cell.{Cell}
use Rattle.kernel_core.specs.kernel_core_facts.cell_states.declared.cells.Part.TheVariants as part
use Rattle.kernel_core.specs.kernel_core_facts.kernel_invariant.Beginnings.{Beginning, state_after}
use Rattle.kernel_core.specs.kernel_core_facts.kernel_record_facts.Cells.{words_on}
use Rattle.kernel_core.specs.kernel_core_facts.store_facts.State.{State}
use Rattle.kernel_core.specs.kernel_core_facts.table_laws.Steps.{IsInOrder}
use Rattle.kernel_core.specs.kernel_core_facts.table_laws.Tables.{entity_by, state_in}
use Rattle.thread_cells.specs.Locked.{Keeping}

-- a cell with its number, the entries after the kept ones that its share knows, and the store as it was when the cell was let go
pub record Sighted (D : Type 0) : Type 0 where
  pub number : ℕ
  pub cell : Cell
  pub known : List Entry
  pub store : State D

abbrev pub sighted : {D : Type 0} → Keeping → State D → Sighted D
sighted k st = record { number = k.number; cell = k.cell; known = k.known; store = st }

-- THE ENTITY IS EXACTLY WHAT THE KNOWN FRONT OF THE HISTORY MAKES IT: its state, version and clock, with the words in the blocks of that store,
-- where the run is spoken of. A locus can be asked for its next act
pub record IsSighted {D : Type 0} (disks : Ghosts D) (spoken : Type 0) (b : Beginning) (kept : List Entry) (s : Sighted D) : Type 0 where
  pub state : spoken → entity_by b.supply (words_on (disks.reading s.store.disk)) s.cell ≡ state_after b (kept ++ s.known) s.number
  pub ready : (l : Locus) → s.cell.part ≡ part.Locus (Some l) → IsReadyLocus (locus_of l)

-- the cells are in order, and where the run is spoken of they are what the whole history makes of all entities
pub record AreKnown {D : Type 0} (disks : Ghosts D) (spoken : Type 0) (b : Beginning) (kept : List Entry) (st : State D) (cs : List Cell) (told : List Entry) : Type 0 where
  pub order : IsInOrder cs
  pub state : spoken → (x : ℕ) → state_in b.supply (words_on (disks.reading st.disk)) cs x ≡ state_after b (kept ++ told) x
