-- A piece of the serial history that was stopped, and how a store counts on over several records.
use Rattle.std.specs.Prelude.{◌≡◌, ℕ, ◌+◌, ◌≤◌, List, ◌++◌}
use Rattle.edge_disk.specs.declared.disk.Disk.{Ghosts}
use Rattle.edge_tally.specs.Counts.{CountsOn}
use Rattle.base_types.specs.declared.histories.Entry.{Entry}
use Rattle.model_serial_turns.specs.Turns.{IsStoppedIn}
use Rattle.kernel_book_laws.specs.store_facts.State.{State, books}
use Rattle.kernel_book_laws.specs.kernel_invariant.Beginnings.{Beginning, run_of}

-- WHERE A PIECE WAS STOPPED: behind the old history, `all` was to come in the run, and a part of it came
pub record StopsIn (b : Beginning) (all old new : List Entry) : Type 0 where
  pub part : List Entry
  pub entries : new ≡ old ++ part
  pub is : IsStoppedIn b.supply b.script (run_of b old) all part

-- HOW A STORE COUNTS ON: so many writes and syncs at most, the disk's clock with them; faults don't fall, and the image has as many blocks
pub record CountsWithin {D : Type 0} (disks : Ghosts D) (most : ℕ) (old new : State D) : Type 0 where
  pub few : (books new).begun ≤ (books old).begun + most
  pub counts : CountsOn (disks.clock old.disk) (disks.clock new.disk) (books old).begun (books new).begun
  pub later : disks.faults old.disk ≤ disks.faults new.disk
  pub same_count : (books new).count ≡ (books old).count
