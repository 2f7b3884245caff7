-- All cells in a desk's kernel, each lent from under its lock.
use Rattle.std.specs.Prelude.{◌≡◌, ℕ, List, Some, slice_get}
use Rattle.edge_disk.specs.declared.disk.Disk.{Ghosts}
use Rattle.base_types.specs.declared.histories.Entry.{Entry}
use Rattle.thread_stables.specs.kernel_core_facts.kernel_commit_facts.Parts.{Parts}
use Rattle.thread_stables.specs.kernel_core_facts.kernel_invariant.Beginnings.{Beginning}
use Rattle.thread_stables.specs.kernel_core_facts.kernel_record_facts.Cells.{words_on}
use Rattle.thread_stables.specs.kernel_core_facts.table_laws.Tables.{AreClean}
use Rattle.thread_cells.specs.Locked.{Keeping}
use Rattle.thread_desk_looks.specs.thread_desk.Sights.{AreKnown, Sighted}

-- the lent cell of one that lies under a lock
abbrev pub keeping_of : {D : Type 0} → Sighted D → Keeping
keeping_of s = record { number = s.number; cell = s.cell; known = s.known }

-- the share of each knows these entries
abbrev pub AllHeard : List Entry → List Keeping → Type 0
AllHeard told ks = (i : ℕ) (k : Keeping) → slice_get ks i ≡ Some k → k.known ≡ told

-- A CELL WHOSE SHARE KNOWS THESE ENTRIES MAY BE LET GO beside the parts: with them the cells are what the history makes, and where the disk tells its
-- content, as it does where the run is spoken of, their pages are clean
pub record LetsGo {D : Type 0} (disks : Ghosts D) (spoken : Type 0) (b : Beginning) (kept es : List Entry) (p : Parts D) : Type 0 where
  pub known : AreKnown disks spoken b kept p.store p.cells es
  pub tells : spoken → disks.tells
  pub clean : disks.tells → AreClean b.supply (words_on (disks.reading p.store.disk)) p.cells
