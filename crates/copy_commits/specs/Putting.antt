-- A copy's pages put into free blocks, and its records behind them.
use Rattle.std.specs.Prelude.{◌≡◌, ◌⊎◌, ℕ, ◌+◌, ◌<◌, true, List, slice_index}
use Rattle.edge_disk.specs.declared.disk.Disk.{Ghosts}
use Rattle.edge_disk.specs.Image.{Image}
use Rattle.cell_copies.specs.Copying.{HasCopy}
use Rattle.page_store.specs.declared.faults.PageFault.{PageFault}
use Rattle.page_store.specs.declared.faults.PageFault.TheVariants as page
use Rattle.kernel_invariant.specs.image_meaning.Meaning.{Means}
use Rattle.kernel_invariant.specs.model_kernel.State.{KernelState, Supply, Text}
use Rattle.store_copies.specs.Images.{AreRecordsOf, IsMeantState}
use Rattle.store_copies.specs.model_copies.Copies.{IsCopied}
use Rattle.store_copies.specs.model_copies.Needing.{LeavesCopy}
use Rattle.kernel_records.specs.cell_states.declared.cells.Cell.{Cell}
use Rattle.kernel_records.specs.kernel_block_laws.image_facts.Layout.{last_number}
use Rattle.kernel_records.specs.kernel_record_facts.Cells.{words_on}
use Rattle.kernel_records.specs.store_books.Books.{AreSmall, Books, kept_of}
use Rattle.kernel_records.specs.store_books.Owning.{AreOwned}
use Rattle.kernel_records.specs.store_facts.Putting.{are_small}
use Rattle.store_snapshots.specs.declared.faults.StoreFault.{StoreFault}
use Rattle.store_snapshots.specs.declared.faults.StoreFault.TheVariants as fault

-- the store's fault where a page could not be copied, for which there was a block
abbrev pub IsFaultOf : PageFault → StoreFault → Type 0
IsFaultOf (page.NoBlocks b) f = f ≡ fault.ReadFault
IsFaultOf page.ReadFault f = f ≡ fault.ReadFault
IsFaultOf page.WriteFault f = f ≡ fault.WriteFault
IsFaultOf page.Shut f = f ≡ fault.ReadFault

-- the image means the state, or the one with a copy
abbrev pub MeansBeforeOr : Supply → Text → Text → KernelState → Image → Type 0
MeansBeforeOr s name fresh v c = Means s c v ⊎ ((w : KernelState) × IsCopied name fresh v w × Means s c w)

-- each image that a stop may leave now means the state with the copy
pub record LeavesCopyOf {D : Type 0} (disks : Ghosts D) (s : Supply) (name fresh : Text) (v : KernelState) (new : D) : Type 0 where
  pub state : KernelState
  pub copied : IsCopied name fresh v state
  pub left : (c : Image) → disks.may_leave new c → Means s c state

-- WHAT A COPY IS PUT FROM: the store keeps the records of the state; whatever its other blocks hold, the cells are the copy's where held blocks have
-- the words of the image; and no number is too large, also behind two turns. The newborn has no working table yet, and the atlas has none.
pub record MayPutCopy (s : Supply) (name fresh : Text) (v : KernelState) (image : Image) (b : Books) (tables : ℕ → List ℕ) (from : List ℕ) (a n : Cell) : Type 0 where
  pub meant : IsMeantState s v
  pub records : AreRecordsOf s v (kept_of image b)
  pub owned : AreOwned b tables
  pub small : AreSmall b
  pub epoch : b.place.epoch + 2 < last_number
  pub is_atlas : a.clock.entity ≡ 0
  pub no_atlas : (p : ℕ) → slice_index (tables 0) p ≡ 0
  pub unset : (p : ℕ) → slice_index (tables n.clock.entity) p ≡ 0
  pub fits_atlas : are_small a.clock.version a.clock.stamp.0 ≡ true
  pub fits_copy : are_small n.clock.version n.clock.stamp.0 ≡ true
  pub copy : (words : ℕ → List ℕ) → ((k : ℕ) → b.held k ≡ true → words k ≡ words_on image k) → (w : KernelState) × IsCopied name fresh v w × HasCopy s words w from a n
  pub number : (w : KernelState) (l : LeavesCopy name fresh v w) → n.clock.entity ≡ l.number
