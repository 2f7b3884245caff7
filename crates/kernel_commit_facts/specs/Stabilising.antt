-- A Stable: a record of each entity that has changed since its newest one.
use Rattle.std.specs.Prelude.{◌≡◌, ◌<◌, ◌≤◌, ℕ, Bool, false, List, [], ◌∷◌, ◌++◌, None, Some}
use Rattle.std.specs.List.{sum_by}
use Rattle.edge_disk.specs.declared.disk.Disk.{Ghosts}
use Rattle.edge_disk.specs.declared.disk.NoBlocks.{NoBlocks}
use Rattle.base_types.specs.declared.histories.Event.TheVariants.{Stable}
use Rattle.image_facts.specs.model_kernel.Histories.{mark}
use Rattle.table_steps.specs.cell_blobs.Blobs.{need_in}
use Rattle.table_steps.specs.cell_states.declared.cells.Cell.{Cell}
use Rattle.kernel_book_laws.specs.store_facts.State.{books}
use Rattle.kernel_book_laws.specs.store_books.Books.{free_in, kept_names}
use Rattle.kernel_book_laws.specs.kernel_invariant.Beginnings.{Beginning, run_of}
use Rattle.kernel_book_laws.specs.Matching.{AreRecorded}
use Rattle.kernel_commit_facts.specs.Parts.{Parts, StandsAs}

-- THE BLOCKS that a record of each changed cell needs, together
abbrev pub needs_in : (ℕ → Bool) → List Cell → ℕ
needs_in kept cs = sum_by (need_in kept) cs

-- as many are free
abbrev pub NeedsFit : {D : Type 0} → Parts D → Type 0
NeedsFit p = needs_in (kept_names (books p.store)) p.cells ≤ free_in (books p.store)

-- fewer are free; both numbers
pub record AreShort {D : Type 0} (p : Parts D) (n : NoBlocks) : Type 0 where
  pub fewer : free_in (books p.store) < needs_in (kept_names (books p.store)) p.cells
  pub numbers : n ≡ record { need = needs_in (kept_names (books p.store)) p.cells; free = free_in (books p.store) }

-- THE STABLE WAS MADE: each cell has its newest record, and one entry with its mark stands for all of them
pub record HasStabilised {D : Type 0} (actor : ℕ) (old new : Parts D) : Type 0 where
  pub recorded : AreRecorded new.cells
  pub entries : new.noted.entries ≡ old.noted.entries ++ mark Stable actor 0 ∷ []
  pub marks : new.noted.marks ≡ old.noted.marks ++ (books new.store).begun ∷ []
  pub room : new.noted.room ≡ old.noted.room

module _ {D : Type 0} (disks : Ghosts D) where
  -- a Stable of the actor is owed in the run
  pub record OwesStable (b : Beginning) (actor : ℕ) (p : Parts D) : Type 0 where
    pub stands : StandsAs disks b p
    pub owed : (run_of b p.noted.entries).owed ≡ Some actor
    pub whole : (run_of b p.noted.entries).short ≡ false
    pub untried : (run_of b p.noted.entries).tried ≡ None
