-- An image that was opened, and what opening leaves of it.
use Rattle.std.specs.Prelude.{◌≡◌, ℕ, ◌+◌, ◌<◌, ◌≤◌, ◌^◌, true, false, List, [], Some, None, slice_get, slice_index, ◌⊎◌}
use Rattle.edge_disk.specs.Moments.{LeavesOnly}
use Rattle.edge_disk.specs.declared.disk.Disk.{Ghosts}
use Rattle.edge_disk.specs.Counts.{Rose}
use Rattle.edge_disk.specs.Disk.{LeavesNoMore, Only, Ticks}
use Rattle.edge_tally.specs.Counts.{Begins, shown}
use Rattle.edge_disk.specs.Image.{Image, SameOutside}
use Rattle.image_facts.specs.model_kernel.State.{KernelState, Supply}
use Rattle.table_opened.specs.image_blocks.Checks.{active_area}
use Rattle.image_facts.specs.Checks.{count_in}
use Rattle.table_opened.specs.image_blocks.Layout.{epoch_in}
use Rattle.image_facts.specs.Layout.{last_number}
use Rattle.table_opened.specs.image_blocks.declared.areas.Area.{Area}
use Rattle.table_opened.specs.image_meaning.Foreign.{IsBadMeaning, IsForeign}
use Rattle.table_opened.specs.image_meaning.Meaning.{Accepted, Means}
use Rattle.table_opened.specs.image_chosen.Parts.{ArePartsOf}
use Rattle.table_opened.specs.image_chosen_facts.Parts.{IsAcceptedWith}
use Rattle.table_opened.specs.image_chosen_facts.Tables.{AreTablesOf}
use Rattle.table_opened.specs.image_chosen.declared.parts.ImageParts.{ImageParts}
use Rattle.kernel_views.specs.kernel_laws.Opening.{KeepsChosen, StandsAtStart, chosen_recs}
use Rattle.table_opened.specs.log_reading.Logs.{IsKnown, IsLogOf}
use Rattle.table_opened.specs.log_reading.declared.log.ImageLog.{ImageLog}
use Rattle.table_opened.specs.data_blocks.declared.ShadowTable.{ShadowTable}
use Rattle.table_opened.specs.image_fits.Chosen.{parts_of}
use Rattle.table_opened.specs.kernel_record_facts.Cells.{words_on}
use Rattle.kernel_views.specs.store_facts.Opening.{SyncsOnly}
use Rattle.kernel_views.specs.store_facts.State.{State, books}
use Rattle.kernel_views.specs.store_snapshots.declared.opening.OpenWhy.{OpenWhy}
use Rattle.kernel_views.specs.store_snapshots.declared.opening.OpenWhy.TheVariants.{Foreign, Memory, ReadFault, WriteFault}
use Rattle.table_opened.specs.store_books.Books.{AreTrue, Books, IsBeforePool, kept_in, recs_in}
use Rattle.table_opened.specs.store_books.Owning.{AreOwned}
use Rattle.table_opened.specs.table_laws.Tables.{AreClean, HasTableWishes, IsOrderly, state_in}
use Rattle.image_facts.specs.model_kernel.Histories.{start_run}
use Rattle.table_opened.specs.cell_states.declared.cells.Cell.{Cell}
use Rattle.table_opened.specs.kernel_invariant.Beginnings.{Beginning, BeginsRight}
use Rattle.kernel_views.specs.Views.{newest_at, view_of}
use Rattle.kernel_views.specs.kernel_records.Keeping.{HasNewest}
use Rattle.kernel_views.specs.store_facts.Shelves.{records_of}
use Rattle.table_opened.specs.Held.{HoldsNamed}
use Rattle.table_opened.specs.Opened.{HaveFrames}
use Rattle.open_facts.specs.Opened.{HaveBlocks}

-- WHY NOT: a bad place is the first one of the image, and a read, a write or a sync failed only where the count of faults rose
abbrev pub HasImageCause : Type 0 → Image → ℕ → ℕ → OpenWhy → Type 0
HasImageCause tells image before now (Foreign bad) = tells → IsForeign image bad
HasImageCause tells image before now ReadFault = Rose before now
HasImageCause tells image before now WriteFault = Rose before now
HasImageCause tells image before now Memory = Unit {0}

-- why the parts could not be read, of an image with this log
abbrev pub HasPartsCause : Type 0 → Image → ImageLog → ℕ → ℕ → OpenWhy → Type 0
HasPartsCause tells image log before now (Foreign bad) = tells → IsLogOf image log → IsBadMeaning image bad
HasPartsCause tells image log before now ReadFault = Rose before now
HasPartsCause tells image log before now WriteFault = ⊥
HasPartsCause tells image log before now Memory = Unit {0}

-- why its chosen records could not be kept
abbrev pub HasKeepCause : ℕ → ℕ → OpenWhy → Type 0
HasKeepCause before now (Foreign bad) = ⊥
HasKeepCause before now ReadFault = ⊥
HasKeepCause before now WriteFault = (before ≤ now) × Rose before now
HasKeepCause before now Memory = before ≤ now

-- what was read of an image with this log: its parts and the page tables of them
pub record AreReadOf (log : ImageLog) (parts : ImageParts) (tables : List ShadowTable) : Type 0 where
  pub parts_are : ArePartsOf log parts
  pub tables_are : AreTablesOf parts.entities.items tables

-- THE STORE OF AN IMAGE THAT WAS OPENED, whatever the disk tells: its log and what is kept are the chosen records of the image's log, and
-- these parts are what they spell; their pages' blocks are held
pub record IsOpened {D : Type 0} (st : State D) (parts : ImageParts) : Type 0 where
  pub log : ImageLog
  pub known : IsKnown log.blocks log
  pub parts_are : ArePartsOf log parts
  pub recs : recs_in (books st) ≡ chosen_recs log.recs.items
  pub all_kept : kept_in (books st) ≡ (books st).logged
  pub count : (books st).count ≡ log.blocks
  pub epoch : (books st).place.epoch ≡ log.epoch + 1
  pub held : HoldsNamed (books st).held (parts_of parts.entities.items)
  pub read : (books st).found ≡ false
  pub small : (books st).small ≡ true
  pub working : (books st).shut ≡ false
  pub synced : 0 < (books st).begun

-- the epoch leaves room for one turn more
abbrev pub HasTurnLeft : Image → Type 0
HasTurnLeft image = (area : Area) → active_area image ≡ Some area → epoch_in image area < last_number

-- and where it does: the image is accepted with these parts, the store has as many blocks, keeps its chosen records, and its books are true; what
-- reads is the same in the pool, while an epoch isn't too large; the blocks have one owner each, with working tables that have the parts' blocks
pub record HoldsImage {D : Type 0} (disks : Ghosts D) (image : Image) (st : State D) (parts : ImageParts) : Type 0 where
  pub log : ImageLog
  pub parts_are : ArePartsOf log parts
  pub accepted : IsAcceptedWith image log.recs.items (parts_of parts.entities.items)
  pub area : Area
  pub active : active_area image ≡ Some area
  pub epoch : (books st).place.epoch ≡ epoch_in image area + 1
  pub count : (books st).count ≡ count_in image
  pub keeps : KeepsChosen image accepted.whole (books st)
  pub books_true : AreTrue disks (books st) st.disk
  pub stable : Only (disks.reading st.disk) (disks.may_leave st.disk)
  pub same : HasTurnLeft image → SameOutside IsBeforePool image (disks.reading st.disk)
  pub owned : (working : ℕ → List ℕ) → HaveBlocks working (parts_of parts.entities.items) → AreOwned (books st) working

-- MOMENTS

-- the one image means whatever the other means
abbrev pub MeansSame : Image → Image → Type 0
MeansSame image c = (s : Supply) (v : KernelState) → Means s image v → Means s c v

-- a stop from the first sync on left an image that means what was meant before it
abbrev pub MeansSince : {D : Type 0} → Ghosts D → D → D → Type 0
MeansSince disks old new = (first t : ℕ) (c : Image) → Ticks (disks.clock old) first → first ≤ t → disks.left_since new t c → MeansSame (disks.reading old) c

-- the sync failed: no more was begun, and a stop leaves what it could leave before
pub record StopsShort {D : Type 0} (disks : Ghosts D) (why : OpenWhy) (old new : D) : Type 0 where
  pub fault : why ≡ WriteFault
  pub one : Ticks (disks.clock old) (disks.clock new)
  pub no_more : LeavesNoMore disks.may_leave old new

-- a refused image was synced, and not written: it reads as before, and a stop leaves nothing else
pub record WasRefused {D : Type 0} (disks : Ghosts D) (old new : D) : Type 0 where
  pub synced : SyncsOnly disks old new
  pub stable : disks.tells → Only (disks.reading new) (disks.may_leave new)

-- of a store that is gone: it had begun so many writes and syncs, which are few
abbrev pub HasBegun : {D : Type 0} → Ghosts D → ℕ → ℕ → D → D → Type 0
HasBegun disks most before old new = (begun : ℕ) × Begins most (shown disks old before) (shown disks new begun)

-- the newest record of each cell is the newest in the log of these books, with this stamp; it rests on newest ones alone, and no entity has more
-- than one kept record
pub record AreNewestIn (b : Books) (cs : List Cell) : Type 0 where
  pub stamps : ℕ → List ℕ
  pub newest : HasNewest (λ x. newest_at (slice_get cs x)) stamps (recs_in b)
  pub below : (x y : ℕ) → 0 < newest_at (slice_get cs x) → slice_index (stamps x) y ≤ newest_at (slice_get cs y)
  pub few : (y : ℕ) → records_of y (kept_in b) ≤ 1

-- CELLS AND STORE of an image that was opened, whatever the disk tells: the cells are in order, each newest record is its version, no wish is
-- open, and no page is resident; the store has the chosen records of the image's log alone
pub record IsOpenedTable {D : Type 0} (frames steps : ℕ) (st : State D) (cs : List Cell) : Type 0 where
  pub parts : ImageParts
  pub opened : IsOpened st parts
  pub orderly : IsOrderly (books st).held cs
  pub newest : AreNewestIn (books st) cs
  pub frames_are : HaveFrames frames cs
  pub wishes : (s : Supply) (words : ℕ → List ℕ) → HasTableWishes steps (start_run (state_in s words cs)) cs
  pub clean : (s : Supply) (words : ℕ → List ℕ) → AreClean s words cs

-- THEY ARE THE IMAGE'S: it is accepted, the store has as many blocks as it, its chosen records alone are in the log, ascending by entity, and with
-- each supply the cells are what it means
pub record AreOfImage {D : Type 0} (image : Image) (st : State D) (cs : List Cell) : Type 0 where
  pub accepted : Accepted image
  pub count : (books st).count ≡ count_in image
  pub recs : recs_in (books st) ≡ chosen_recs accepted.recs
  pub means : (s : Supply) → Means s image (state_in s (words_on image) cs)

-- the epoch is what a run may begin with
abbrev pub HasLowEpoch : Image → Type 0
HasLowEpoch image = (area : Area) → active_area image ≡ Some area → epoch_in image area ≤ 2 ^ 61

-- A KERNEL WITH THESE stands at the start of each run that begins with what the image means, counted from the moment before the opening,
-- with stops looked at from the end of its sync on
abbrev pub StartsFrom : {D : Type 0} → Ghosts D → ℕ → D → State D → List Cell → Type 0
StartsFrom disks steps old st cs = (b : Beginning) (first : ℕ) → BeginsRight b → b.script.steps ≡ steps → Means b.supply (disks.reading old) b.state → HasLowEpoch (disks.reading old)
    → b.since ≡ disks.clock old → Ticks (disks.clock old) first → first ≤ b.first → b.first ≤ disks.clock st.disk
    → StandsAtStart b disks (view_of disks.reading b cs st [] [] None) st.disk

-- the same, of a disk that was handed in and of the one that comes back
abbrev pub HasImageCauseIn : {D : Type 0} → Ghosts D → D → D → OpenWhy → Type 0
HasImageCauseIn disks old new = HasImageCause disks.tells (disks.reading old) (disks.faults old) (disks.faults new)

-- the same, of a disk before the reads and behind them
abbrev pub HasPartsCauseIn : {D : Type 0} → Ghosts D → ImageLog → D → D → OpenWhy → Type 0
HasPartsCauseIn disks log old new = HasPartsCause disks.tells (disks.reading old) log (disks.faults old) (disks.faults new)

-- a stop at any moment from the one to the other leaves what it could leave at first, or what means the same as was read
abbrev pub LeavesMeant : {D : Type 0} → Ghosts D → D → D → Type 0
LeavesMeant disks old new = LeavesOnly disks old new (λ c. disks.may_leave old c ⊎ MeansSame (disks.reading old) c)
