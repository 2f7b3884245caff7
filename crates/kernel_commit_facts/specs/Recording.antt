-- One record of a kernel's cell.
use Rattle.std.specs.Prelude.{◌≡◌, ℕ, ◌+◌, ◌<◌, ◌≤◌, ◌^◌, true, false, List, [], ◌∷◌, ◌++◌, None, Some, slice_get}
use Rattle.edge_disk.specs.declared.disk.Disk.{Ghosts}
use Rattle.edge_disk.specs.Counts.{Rose}
use Rattle.edge_disk.specs.Moments.{LeavesOnly}
use Rattle.edge_disk.specs.declared.disk.NoBlocks.{NoBlocks}
use Rattle.base_types.specs.declared.histories.Entry.{Entry}
use Rattle.base_types.specs.declared.histories.Event.TheVariants.{Snap, Tried}
use Rattle.image_facts.specs.model_kernel.Histories.{MayCommit, mark}
use Rattle.kernel_book_laws.specs.store_books.Books.{AreSmall, AreTrue}
use Rattle.kernel_book_laws.specs.store_facts.Putting.{are_small}
use Rattle.kernel_book_laws.specs.store_facts.State.{State, books}
use Rattle.table_steps.specs.cell_states.declared.cells.Cell.{Cell}
use Rattle.table_steps.specs.table_laws.Lending.{Lends}
use Rattle.kernel_book_laws.specs.kernel_records.Committing.{HasCommitted, HasNotCommitted, IsCellShort, StoresKeptOrCell}
use Rattle.kernel_book_laws.specs.kernel_invariant.Beginnings.{Beginning, run_of}
use Rattle.kernel_book_laws.specs.Matching.{HasRoomFor, MatchesBooks, newest_of, version_of}
use Rattle.kernel_book_laws.specs.store_snapshots.declared.faults.StoreFault.{StoreFault}
use Rattle.kernel_book_laws.specs.store_snapshots.declared.faults.StoreFault.TheVariants as fault
use Rattle.kernel_commit_facts.specs.Parts.{Noted, Parts, StandsAs}

-- what is noted of it: where a call of the disk failed this entry
abbrev pub with_fault : StoreFault → Entry → Noted → Noted
with_fault (fault.NoBlocks n) e noted = noted
with_fault fault.WriteFault e noted = record noted { entries = noted.entries ++ e ∷ [] }
with_fault fault.ReadFault e noted = record noted { entries = noted.entries ++ e ∷ [] }
with_fault fault.Shut e noted = record noted { entries = noted.entries ++ e ∷ [] }

module _ {D : Type 0} (disks : Ghosts D) where
  -- A RECORD OF THE ENTITY MAY BE MADE: it has changed since its newest one, and the store works and matches the cells
  pub record CanRecord (x : ℕ) (cs : List Cell) (st : State D) : Type 0 where
    pub matches : MatchesBooks (λ _. 5) (books st) cs
    pub working : (books st).shut ≡ false
    pub true_books : disks.tells → AreTrue disks (books st) st.disk
    pub changed : newest_of cs x < version_of cs x
    pub epoch : (books st).place.epoch < 2 ^ 63

  -- A COMMIT of the entity's cell among the others, and what a stop left of it
  pub record CommitsAmong (x : ℕ) (c d : Cell) (cs cs' : List Cell) (old new : State D) : Type 0 where
    pub number : c.clock.entity ≡ x
    pub lends : Lends cs cs' (c ∷ []) (d ∷ [])
    pub moments : disks.tells → AreSmall (books old) → are_small c.clock.version c.clock.stamp.0 ≡ true
        → LeavesOnly disks old.disk new.disk (StoresKeptOrCell disks c d old)

  -- the record was made
  pub record HasMade (x : ℕ) (cs cs' : List Cell) (old new : State D) : Type 0 where
    pub before : Cell
    pub after : Cell
    pub commits : CommitsAmong x before after cs cs' old new
    pub committed : HasCommitted disks before after old new
    pub true_books : disks.tells → AreTrue disks (books new) new.disk

  -- or failed
  pub record HasNotMade (x : ℕ) (cs cs' : List Cell) (old new : State D) : Type 0 where
    pub before : Cell
    pub after : Cell
    pub commits : CommitsAmong x before after cs cs' old new
    pub failed : HasNotCommitted disks before after old new

  -- THE RECORD WAS MADE, and its Snap noted with the mark
  pub record HasRecorded (x : ℕ) (old new : Parts D) : Type 0 where
    pub made : HasMade x old.cells new.cells old.store new.store
    pub entries : new.noted.entries ≡ old.noted.entries ++ mark Snap x (version_of old.cells x) ∷ []
    pub marks : new.noted.marks ≡ old.noted.marks ++ (books new.store).begun ∷ []
    pub room : new.noted.room ≡ old.noted.room
    pub matches : (most : ℕ → ℕ) → HasRoomFor most x (books old.store) → MatchesBooks most (books new.store) new.cells
    pub working : (books new.store).shut ≡ false
    pub epoch : (books new.store).place.epoch ≤ (books old.store).place.epoch + 1

  -- IT WAS TRIED: a call of the disk failed
  pub record HasTried (x : ℕ) (old new : Parts D) : Type 0 where
    pub entries : new.noted.entries ≡ old.noted.entries ++ mark Tried x (version_of old.cells x) ∷ []
    pub marks : new.noted.marks ≡ old.noted.marks
    pub room : new.noted.room ≡ old.noted.room
    pub failed : HasNotMade x old.cells new.cells old.store new.store
    pub rose : Rose (disks.faults old.store.disk) (disks.faults new.store.disk)

  -- too few blocks are free for it; both numbers
  pub record IsShort (x : ℕ) (p : Parts D) (n : NoBlocks) : Type 0 where
    pub cell : Cell
    pub at : slice_get p.cells x ≡ Some cell
    pub short : IsCellShort cell (books p.store) n

  -- a commit of the entity may be next in the run
  pub record MayRecord (b : Beginning) (x : ℕ) (p : Parts D) : Type 0 where
    pub stands : StandsAs disks b p
    pub untried : (run_of b p.noted.entries).tried ≡ None
    pub may : MayCommit b.policy (run_of b p.noted.entries) x
