-- A standby, as contracts see it.
use Rattle.std.specs.Prelude.{◌≡◌, ◌⊎◌, ℕ, ◌+◌, ◌≤◌, IsErrOf, Result, Some, false, true}
use Rattle.edge_disk.specs.Counts.{Rose}
use Rattle.edge_disk.specs.Image.{Image}
use Rattle.edge_disk.specs.declared.disk.Disk.{Ghosts}
use Rattle.kernel_views.specs.store_snapshots.declared.faults.StoreFault.{StoreFault}
use Rattle.kernel_views.specs.store_snapshots.declared.faults.StoreFault.TheVariants as fault
use Rattle.kernel_views.specs.store_snapshots.store_books.Books.{AreTrue}
use Rattle.kernel_views.specs.store_snapshots.store_facts.image_blocks.Checks.{active_area}
use Rattle.kernel_views.specs.store_snapshots.store_facts.image_blocks.Layout.{epoch_in}
use Rattle.kernel_views.specs.store_snapshots.store_facts.image_blocks.Logs.{Place}
use Rattle.kernel_views.specs.store_snapshots.store_facts.State.{State, books}
use Rattle.kernel_views.specs.store_snapshots.store_facts.image_facts.Layout.{last_number}

-- its store, and how many shipments it took
pub record Standing (D : Type 0) : Type 0 where
  pub store : State D
  pub count : ℕ

-- WHAT IS TRUE OF EVERY STANDBY: its books are true, and while the store works no block is held, and the epoch rose by one at most for each shipment
pub record IsStandby {D : Type 0} (disks : Ghosts D) (st : Standing D) : Type 0 where
  pub read : (books st.store).shut ≡ false → (books st.store).found ≡ false
  pub none_held : (books st.store).shut ≡ false → (n : ℕ) → (books st.store).held n ≡ false
  pub epoch : (books st.store).shut ≡ false → (books st.store).place.epoch ≤ last_number + st.count
  pub true_books : disks.tells → AreTrue disks (books st.store) st.store.disk

module _ {D : Type 0} (disks : Ghosts D) where
  -- THE DISK'S COUNT OF FAULTS doesn't fall, and it rose where the store is shut since
  pub record KeepsCount (old new : Standing D) : Type 0 where
    pub later : disks.faults old.store.disk ≤ disks.faults new.store.disk
    pub shut : (books new.store).shut ≡ true → ((books old.store).shut ≡ true) ⊎ Rose (disks.faults old.store.disk) (disks.faults new.store.disk)

  -- WHAT GOES WRONG AT THE DISK in a delivery: a write, where the count of faults rose, and it shuts the store; no read
  pub record HasDiskCause {T : Type 0} (result : Result T StoreFault) (old new : Standing D) : Type 0 where
    pub counts : KeepsCount old new
    pub write_fault : IsErrOf result fault.WriteFault → Rose (disks.faults old.store.disk) (disks.faults new.store.disk) × ((books new.store).shut ≡ true)
    pub no_read : IsErrOf result fault.ReadFault → ⊥

-- THE PLACE OF THE LOG is that of the image: its active area, and the epoch there
pub record IsPlaceOf (image : Image) (place : Place) : Type 0 where
  pub active : active_area image ≡ Some place.active
  pub epoch : place.epoch ≡ epoch_in image place.active
