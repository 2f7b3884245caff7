-- Where blocks are too few for what is next: a page of a step, a record, or all records of a Stable together. Both numbers.
use Rattle.std.specs.Prelude.{◌≡◌, ◌+◌, ◌-◌, ◌*◌, ◌≤◌, ℕ, Bool, true, false, List, Contains}
use Rattle.edge_disk.specs.declared.disk.Disk.{Ghosts}
use Rattle.edge_disk.specs.declared.disk.NoBlocks.{NoBlocks}
use Rattle.base_types.specs.declared.histories.Entry.{Entry}
use Rattle.base_types.specs.declared.histories.Event.{Event}
use Rattle.base_types.specs.declared.histories.Event.TheVariants.{Snap, Stable, Step}
use Rattle.image_facts.specs.Layout.{pool_at}
use Rattle.image_facts.specs.model_kernel.Histories.{Policy}
use Rattle.image_facts.specs.model_kernel.State.{KernelState}
use Rattle.table_steps.specs.Wanting.{IsStepShort, TurnsOne}
use Rattle.kernel_book_laws.specs.store_facts.State.{books}
use Rattle.kernel_book_laws.specs.store_books.Books.{free_in, kept_names}
use Rattle.kernel_book_laws.specs.kernel_block_laws.Room.{all_born, all_pages}
use Rattle.kernel_commit_facts.specs.Parts.{Parts}
use Rattle.kernel_commit_facts.specs.Recording.{IsShort}
use Rattle.kernel_commit_facts.specs.Snapping.{Snaps}
use Rattle.kernel_commit_facts.specs.Stabilising.{AreShort}

-- the next step of the locus is short of a block for a page, in the store of these parts
abbrev pub WantsPage : {D : Type 0} → ℕ → Parts D → NoBlocks → Type 0
WantsPage me p n = IsStepShort (kept_names (books p.store)) (free_in (books p.store)) me p.cells n

-- THE STEP of the locus WAS SHORT of a block for a page, and nothing but the clock of one container's frames has moved
pub record IsPageWanting {D : Type 0} (me : ℕ) (old new : Parts D) (n : NoBlocks) : Type 0 where
  pub short : WantsPage me old n
  pub turned : TurnsOne old.cells new.cells
  pub same_store : new.store ≡ old.store
  pub same_noted : new.noted ≡ old.noted

-- THE NUMBERS ARE WITHIN THEIR BOUNDS in an image of so many blocks that is in this state: no more are needed than all pages and eight for each born
-- entity; no more are free than the pool has; and no fewer than are left of it where each entity has four kept records, of all its pages and eight
-- blocks, beside its own pages
pub record AreWithin (w : KernelState) (count : ℕ) (n : NoBlocks) : Type 0 where
  pub need : n.need ≤ all_pages w + 8 * all_born w
  pub free : n.free ≤ count - pool_at
  pub low : count ≤ pool_at + n.free + 5 * all_pages w + 32 * all_born w

module _ {D : Type 0} (disks : Ghosts D) where
  -- A SNAP of the entity is to be made, and its record IS SHORT
  abbrev pub IsSnapShort : Policy → ℕ → Parts D → NoBlocks → Type 0
  IsSnapShort policy x p n = Snaps policy x p true × IsShort disks x p n

  -- that of one of these entities is
  pub record AreSnapsShort (policy : Policy) (xs : List ℕ) (p : Parts D) (n : NoBlocks) : Type 0 where
    pub entity : ℕ
    pub among : Contains xs entity
    pub short : IsSnapShort policy entity p n

  -- BEHIND A STEP that wrote these blocks are too few: for the Stable that it owes, or else for the Snap of one of them
  abbrev pub AreShortBehind : Policy → Bool → List ℕ → Parts D → NoBlocks → Type 0
  AreShortBehind policy true xs p n = AreShort p n
  AreShortBehind policy false xs p n = AreSnapsShort policy xs p n

  -- FOR THIS ENTRY, which is next, blocks are too few: for the record of a Snap, for all records of a Stable, for a page of a Step
  abbrev pub IsShortFor : Parts D → NoBlocks → Entry → Event → Type 0
  IsShortFor p n e Snap = IsShort disks e.actor p n
  IsShortFor p n e Stable = AreShort p n
  IsShortFor p n e Step = (old : Parts D) × IsPageWanting e.actor old p n
  IsShortFor p n e event = ⊥
