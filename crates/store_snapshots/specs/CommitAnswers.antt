-- Which answer of a commit comes when.
use Rattle.std.specs.Prelude.{◌≡◌, ◌↔◌, ◌⊎◌, ℕ, ◌<◌, true, false, Result, IsErrOf}
use Rattle.edge_disk.specs.Counts.{Rose}
use Rattle.edge_disk.specs.declared.disk.NoBlocks.{NoBlocks}
use Rattle.store_facts.specs.image_facts.Bodies.{blocks_for}
use Rattle.store_facts.specs.Committed.{HasFailedShut}
use Rattle.store_facts.specs.State.{State, books}
use Rattle.store_snapshots.specs.declared.faults.StoreFault.{StoreFault}
use Rattle.store_snapshots.specs.declared.faults.StoreFault.TheVariants as fault
use Rattle.store_facts.specs.store_books.Books.{Books, free_in}

-- fewer blocks are free in a store that works than a blob of this length needs; both numbers
pub record IsShort (b : Books) (length : ℕ) (n : NoBlocks) : Type 0 where
  pub working : b.shut ≡ false
  pub fewer : free_in b < blocks_for length
  pub numbers : n ≡ record { need = blocks_for length; free = free_in b }

-- Shut exactly of a store that is shut, and NoBlocks exactly where fewer blocks are free than the blob needs, and then nothing is changed;
-- WriteFault only where the count of faults rose, and then the store is shut; nothing else goes wrong
pub record CommitAnswers {D T : Type 0} (faults : D → ℕ) (length : ℕ) (result : Result T StoreFault) (old new : State D) : Type 0 where
  pub shut : (books old).shut ≡ true ↔ IsErrOf result fault.Shut
  pub no_blocks : (b : NoBlocks) → IsErrOf result (fault.NoBlocks b) ↔ IsShort (books old) length b
  pub untouched : IsErrOf result fault.Shut ⊎ ((b : NoBlocks) × IsErrOf result (fault.NoBlocks b)) → new ≡ old
  pub write_fault : IsErrOf result fault.WriteFault → Rose (faults old.disk) (faults new.disk) × HasFailedShut (books old) (books new)
  pub no_read : IsErrOf result fault.ReadFault → ⊥
