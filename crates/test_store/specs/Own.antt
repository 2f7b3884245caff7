-- What holds of a store of its own between calls.
use Rattle.std.specs.Prelude.{◌≡◌, ℕ, ◌+◌, ◌≤◌, false}
use Rattle.edge_disk.specs.declared.disk.Disk.{Ghosts}
use Rattle.image_blocks.specs.image_facts.Layout.{last_number}
use Rattle.store_snapshots.specs.store_books.Books.{AreTrue}
use Rattle.store_snapshots.specs.store_facts.State.{State, books}

-- its records' blobs are read, its epoch has risen with each commit at most, and its books are true
pub record IsOwn {D : Type 0} (disks : Ghosts D) (st : State D) (commits : ℕ) : Type 0 where
  pub read : (books st).found ≡ false
  pub epoch : (books st).shut ≡ false → (books st).place.epoch ≤ last_number + commits
  pub true_books : disks.tells → AreTrue disks (books st) st.disk
