-- What is true of a kernel that goes on, whatever the disk tells.
use Rattle.std.specs.Prelude.{◌≡◌, ℕ, ◌+◌, ◌*◌, ◌≤◌, ◌^◌, false, ◌||◌, if◌then◌else◌, List, [], ◌∷◌, length, nat_lt}
use Rattle.edge_disk.specs.declared.disk.Disk.{Ghosts}
use Rattle.base_types.specs.declared.histories.Entry.{Entry}
use Rattle.kernel_book_laws.specs.store_books.Books.{AreTrue}
use Rattle.kernel_book_laws.specs.store_facts.State.{books}
use Rattle.table_steps.specs.cell_states.declared.cells.Cell.{Cell}
use Rattle.kernel_book_laws.specs.Matching.{MatchesBooks, version_of}
use Rattle.kernel_commit_facts.specs.Parts.{Parts}

abbrev pub total : (Cell → ℕ) → List Cell → ℕ
total f [] = 0
total f (c ∷ cs) = f c + total f cs

-- the entries that the steps left to a cell's locus may still make: four for each
abbrev pub steps_of : Cell → ℕ
steps_of c = if nat_lt 40 c.clock.entity then 4 * c.left else 0

-- and one where a wish may be open
abbrev pub entries_of : Cell → ℕ
entries_of c = steps_of c + (if c.wish.by_step || c.wish.asked then 1 else 0)

abbrev pub steps_to_come : List Cell → ℕ
steps_to_come cs = total steps_of cs

abbrev pub entries_to_come : List Cell → ℕ
entries_to_come cs = total entries_of cs

-- what is noted already, and room for the births with their Stable, or for the Snaps of a Stable with a Tried
abbrev pub entries_taken : List Entry → ℕ
entries_taken [] = 200
entries_taken (e ∷ es) = length (e ∷ es) + 65

-- versions and epochs rise with entries; the opening has begun an epoch
pub record AreFew {D : Type 0} (p : Parts D) : Type 0 where
  pub versions : (x : ℕ) → version_of p.cells x ≤ 2 ^ 62 + length p.noted.entries
  pub epoch : (books p.store).place.epoch ≤ 2 ^ 62 + 1 + 64 * length p.noted.entries
  pub marks : length p.noted.marks ≤ length p.noted.entries
  pub room : entries_to_come p.cells + entries_taken p.noted.entries ≤ p.noted.room
  pub small : p.noted.room ≤ 2 ^ 22

module _ {D : Type 0} (disks : Ghosts D) where
  -- the cells match the books, no entity has more kept records than this, and the store works
  pub record IsSound (most : ℕ → ℕ) (p : Parts D) : Type 0 where
    pub matches : MatchesBooks most (books p.store) p.cells
    pub working : (books p.store).shut ≡ false
    pub true_books : disks.tells → AreTrue disks (books p.store) p.store.disk

  -- THE KERNEL IS STEADY: four kept records of each entity at most
  pub record IsSteady (p : Parts D) : Type 0 where
    pub sound : IsSound (λ _. 4) p
    pub few : AreFew p
