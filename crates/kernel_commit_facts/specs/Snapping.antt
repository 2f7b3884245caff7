-- Snaps by wishes.
use Rattle.std.specs.Prelude.{◌≡◌, ℕ, ◌<◌, Bool, true, not, ◌&&◌, ◌||◌, List, None, Some, slice_get}
use Rattle.edge_disk.specs.declared.disk.Disk.{Ghosts}
use Rattle.image_facts.specs.model_kernel.Histories.{Policy, Run, has_wish, is_full}
use Rattle.image_facts.specs.model_kernel.State.{Supply}
use Rattle.table_steps.specs.cell_states.declared.cells.Cell.{Cell}
use Rattle.kernel_book_laws.specs.kernel_records.Snapping.{is_snapped}
use Rattle.kernel_book_laws.specs.store_facts.Shelves.{records_of}
use Rattle.kernel_book_laws.specs.store_facts.State.{books}
use Rattle.kernel_book_laws.specs.store_books.Books.{kept_in}
use Rattle.kernel_book_laws.specs.kernel_invariant.Beginnings.{Beginning, run_of}
use Rattle.kernel_commit_facts.specs.Parts.{Parts, StandsAs}
use Rattle.kernel_commit_facts.specs.Recording.{CanRecord}

-- a Snap of the entity is to be made, or not: its wish is open and it isn't full, whatever the blocks hold
abbrev pub Snaps : Policy → ℕ → {D : Type 0} → Parts D → Bool → Type 0
Snaps policy x p is = (s : Supply) (words : ℕ → List ℕ) (c : Cell) → slice_get p.cells x ≡ Some c → is_snapped policy s words c (books p.store) ≡ is

-- the run has an open wish of the entity, which isn't full
abbrev pub wants_in : Policy → Run → ℕ → Bool
wants_in policy r x = has_wish policy r x && not (is_full r x)

module _ {D : Type 0} (disks : Ghosts D) where
  -- a record of the entity may be made, and it has room for one; its wish may be open
  pub record CanSnap (x : ℕ) (p : Parts D) : Type 0 where
    pub record_may : CanRecord disks x p.cells p.store
    pub few : records_of x (kept_in (books p.store)) < 4
    pub noted : (c : Cell) → slice_get p.cells x ≡ Some c → (c.wish.by_step || c.wish.asked) ≡ true

  -- the kernel goes on in the run, where nothing is owed or tried
  pub record RunsFree (b : Beginning) (policy : Policy) (p : Parts D) : Type 0 where
    pub same_policy : b.policy ≡ policy
    pub stands : StandsAs disks b p
    pub owes_nothing : (run_of b p.noted.entries).owed ≡ None
    pub untried : (run_of b p.noted.entries).tried ≡ None
