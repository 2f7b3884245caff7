-- What a step leaves of the cells and the store, whatever came of it.
use Rattle.std.specs.Prelude.{◌≡◌, ℕ, ◌+◌, ◌≤◌, List, slice_get, Some}
use Rattle.edge_disk.specs.declared.disk.Disk.{Ghosts}
use Rattle.kernel_commits.specs.store_snapshots.Paging.{GoesByPages}
use Rattle.kernel_commits.specs.store_facts.State.{State, books}
use Rattle.table_births.specs.cell_states.declared.cells.Cell.{Cell}
use Rattle.table_births.specs.table_laws.Tables.{IsOrderly}

-- THE CELLS ARE IN ORDER again, versions rose by one at most, and only pages were read and written, at most one of them written; the disk's
-- count of faults didn't fall.
pub record LeavesInOrder {D : Type 0} (disks : Ghosts D)
    (cs cs' : List Cell) (old new : State D) : Type 0 where
  pub orderly : IsOrderly (books new).held cs'
  pub versions : (x : ℕ) (c d : Cell) → slice_get cs x ≡ Some c → slice_get cs' x ≡ Some d → (c.clock.version ≤ d.clock.version) × (d.clock.version ≤ c.clock.version + 1)
  pub pages : GoesByPages disks old new
  pub one_write : (books new).begun ≤ (books old).begun + 1
