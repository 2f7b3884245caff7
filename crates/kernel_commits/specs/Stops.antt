-- What a kernel is left with where it stops, whatever the disk tells.
use Rattle.std.specs.Prelude.{◌≡◌, ℕ, ◌<◌, ◌≤◌, length}
use Rattle.edge_disk.specs.Counts.{Rose}
use Rattle.edge_disk.specs.declared.disk.NoBlocks.{NoBlocks}
use Rattle.kernel_commit_facts.specs.table_laws.Tables.{IsOrderly}
use Rattle.kernel_commit_facts.specs.store_facts.State.{books}
use Rattle.kernel_commit_facts.specs.Parts.{Parts}
use Rattle.kernel_commit_facts.specs.kernel_invariant.declared.stopping.Stopped.{Stopped}
use Rattle.kernel_commit_facts.specs.kernel_invariant.declared.stopping.Stopped.TheVariants as reason

-- the cause: fewer blocks were free than were needed, or the disk's count of faults rose, at a read or at a write
abbrev pub IsCause : {D : Type 0} → (D → ℕ) → Parts D → Parts D → Stopped → Type 0
IsCause faults old new (reason.NoBlocks n) = n.free < n.need
IsCause faults old new reason.ReadFault = Rose (faults old.store.disk) (faults new.store.disk)
IsCause faults old new reason.WriteFault = Rose (faults old.store.disk) (faults new.store.disk)

-- THE STOP: its cells are in order still, and no more marks are noted than entries; where blocks were too few, both numbers are of what was
-- short of them
pub record LeavesStopped {D : Type 0} (faults : D → ℕ) (short : NoBlocks → Type 0) (old new : Parts D) (why : Stopped) : Type 0 where
  pub orderly : IsOrderly (books new.store).held new.cells
  pub marks : length new.noted.marks ≤ length new.noted.entries
  pub cause : IsCause faults old new why
  pub wanting : (n : NoBlocks) → why ≡ reason.NoBlocks n → short n
