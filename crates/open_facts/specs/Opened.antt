-- What was read of an image, and what a store of it is once it keeps the chosen records.
use Rattle.std.specs.Prelude.{◌≡◌, ℕ, ◌≤◌, false, List, All, AllPairs, length, slice_index, Option}
use Rattle.std.specs.List.{AllByRecursion}
use Rattle.edge_disk.specs.Image.{Image}
use Rattle.table_opened.specs.image_meaning.Parts.{Part}
use Rattle.table_opened.specs.image_chosen.Parts.{ArePartsOf}
use Rattle.table_opened.specs.image_chosen_facts.Parts.{IsAcceptedWith}
use Rattle.table_opened.specs.image_chosen_facts.Tables.{AreTablesOf, blocks_in}
use Rattle.table_opened.specs.image_chosen.declared.parts.ImageParts.{ImageParts}
use Rattle.kernel_views.specs.kernel_laws.Opening.{KeepsChosen}
use Rattle.table_opened.specs.log_facts.Logs.{AreInRange, IsOlder}
use Rattle.table_opened.specs.log_reading.declared.log.ImageLog.{ImageLog}
use Rattle.table_opened.specs.data_blocks.declared.ShadowTable.{ShadowTable}
use Rattle.table_opened.specs.image_fits.Chosen.{parts_of}
use Rattle.table_opened.specs.image_meaning.Stores.{IsHeld}
use Rattle.kernel_views.specs.store_facts.Choosing.{HasKept, are_chosen, books_kept, with_tables}
use Rattle.kernel_views.specs.store_facts.Naming.{IsPlaced}
use Rattle.kernel_views.specs.store_facts.Opening.{IsOver}
use Rattle.kernel_views.specs.store_facts.State.{State, books}
use Rattle.table_opened.specs.store_books.Books.{kept_of}
use Rattle.table_opened.specs.store_books.Owning.{AreOwned}

-- AN IMAGE WAS READ: its log, the parts of it with their page tables, and the store of the log. No container has more pages than a table.
pub record IsRead {D : Type 0} (log : ImageLog) (parts : ImageParts) (tables : List ShadowTable) (st : State D) : Type 0 where
  pub range : AreInRange log.blocks log.recs.items
  pub older : AllPairs IsOlder log.recs.items
  pub over : IsOver log st
  pub parts_are : ArePartsOf log parts
  pub tables_are : AreTablesOf parts.entities.items tables
  pub few : (x : ℕ) → length (blocks_in (parts_of parts.entities.items x)) ≤ 256

-- page by page the tables have the blocks of these parts
abbrev pub HaveBlocks : (ℕ → List ℕ) → (ℕ → Option Part) → Type 0
HaveBlocks tables parts = (x page : ℕ) → slice_index (tables x) page ≡ slice_index (blocks_in (parts x)) page

-- LAWS

-- each chosen record with its table is of the store's blocks, so that they can be kept
abbrev pub PlacedLaw : Type 0 → Type 0
PlacedLaw D = (log : ImageLog) (parts : ImageParts) (tables : List ShadowTable) (st : State D) → IsRead log parts tables st
    → All (IsPlaced st.blocks.first st.blocks.end) (with_tables tables (are_chosen st))

-- each of them stands in an image that is accepted with these parts, with zeros behind its blob
abbrev pub SpeltLaw : Type 0 → Type 0
SpeltLaw D = (log : ImageLog) (parts : ImageParts) (tables : List ShadowTable) (st : State D) (image : Image) → IsRead log parts tables st
    → IsAcceptedWith image log.recs.items (parts_of parts.entities.items) → AllByRecursion (IsHeld image) (kept_of image (books_kept tables st))

-- a store that keeps them keeps the chosen records of that image
abbrev pub KeptLaw : Type 0 → Type 0
KeptLaw D = (log : ImageLog) (parts : ImageParts) (tables : List ShadowTable) (st new : State D) (image : Image) → IsRead log parts tables st → HasKept tables st new
    → (w : IsAcceptedWith image log.recs.items (parts_of parts.entities.items)) → KeepsChosen image w.whole (books new)

-- and where none was held before, its blocks have one owner each, with working tables that have the parts' blocks
abbrev pub OwnedLaw : Type 0 → Type 0
OwnedLaw D = (log : ImageLog) (parts : ImageParts) (tables : List ShadowTable) (st new : State D) (working : ℕ → List ℕ) → IsRead log parts tables st → HasKept tables st new
    → ((n : ℕ) → (books st).held n ≡ false) → HaveBlocks working (parts_of parts.entities.items) → AreOwned (books new) working
