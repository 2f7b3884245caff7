-- What copying a container in an image leaves, and why it is not done.
use Rattle.std.specs.Prelude.{◌≡◌, ℕ, ◌<◌, ◌≤◌, List, string_bytes}
use Rattle.edge_disk.specs.declared.disk.Disk.{Ghosts}
use Rattle.edge_disk.specs.Counts.{Rose}
use Rattle.edge_disk.specs.Disk.{Ticks}
use Rattle.edge_disk.specs.Image.{Image}
use Rattle.edge_disk.specs.declared.disk.NoBlocks.{NoBlocks}
use Rattle.cell_copies.specs.cell_births.cell_states.declared.cells.Cell.{Cell}
use Rattle.cell_copies.specs.model_copies.Needing.{LeavesCopy}
use Rattle.cell_copies.specs.model_copies.model_kernel.State.{AtlasState, KernelState, Supply, Text}
use Rattle.cell_copies.specs.model_copies.model_kernel.Steps.{atlas_in}
use Rattle.script_types.specs.declared.refusals.Refusal.{Refusal}
use Rattle.script_types.specs.declared.refusals.Why.{Why}
use Rattle.open_image.specs.image_meaning.Foreign.{IsForeign}
use Rattle.open_image.specs.image_meaning.Meaning.{Means}
use Rattle.open_image.specs.open_facts.Images.{HasBegun, HasTurnLeft, MeansSince, StopsShort}
use Rattle.open_image.specs.store_books.Books.{Books}
use Rattle.store_snapshots.specs.declared.opening.OpenWhy.{OpenWhy}
use Rattle.store_snapshots.specs.declared.opening.OpenWhy.TheVariants as opening
use Rattle.store_snapshots.specs.declared.faults.StoreFault.{StoreFault}
use Rattle.store_snapshots.specs.declared.faults.StoreFault.TheVariants as fault
use Rattle.copy_commits.specs.Putting.{LeavesCopyOf, MeansBeforeOr}
use Rattle.container_copy.specs.declared.copying.Copied.{Copied}
use Rattle.container_copy.specs.declared.copying.CopyWhy.{CopyWhy}
use Rattle.container_copy.specs.declared.copying.CopyWhy.TheVariants as why
use Rattle.container_copy.specs.Copying.{AreLowNumbers, IsCopyRefusal, copy_key}
use Rattle.container_copy.specs.Needs.{CountsBlocks, IsShort, TableNeeds}

-- the refusal, or want of memory for its key
abbrev pub HasCopyWhy : Why → Text → Text → CopyWhy → Type 0
HasCopyWhy w name fresh (why.Refused r) = (r.why ≡ w) × (string_bytes r.key ≡ copy_key w name fresh)
HasCopyWhy w name fresh why.Memory = Unit {0}
HasCopyWhy w name fresh (why.Foreign bad) = ⊥
HasCopyWhy w name fresh (why.NoBlocks m) = ⊥
HasCopyWhy w name fresh why.ReadFault = ⊥
HasCopyWhy w name fresh why.WriteFault = ⊥

-- the same of an opening
abbrev pub IsOpenCause : OpenWhy → CopyWhy → Type 0
IsOpenCause (opening.Foreign bad) w = w ≡ why.Foreign bad
IsOpenCause opening.ReadFault w = w ≡ why.ReadFault
IsOpenCause opening.WriteFault w = w ≡ why.WriteFault
IsOpenCause opening.Memory w = w ≡ why.Memory

-- and of the store
abbrev pub IsStoreCause : StoreFault → CopyWhy → Type 0
IsStoreCause (fault.NoBlocks m) w = w ≡ why.NoBlocks m
IsStoreCause fault.ReadFault w = w ≡ why.ReadFault
IsStoreCause fault.WriteFault w = w ≡ why.WriteFault
IsStoreCause fault.Shut w = w ≡ why.WriteFault

-- a call of the disk failed; behind each other reason nothing was begun but the opening
abbrev pub IsDiskWhy : CopyWhy → Type 0
IsDiskWhy (why.Foreign bad) = ⊥
IsDiskWhy (why.Refused r) = ⊥
IsDiskWhy (why.NoBlocks m) = ⊥
IsDiskWhy why.ReadFault = Unit {0}
IsDiskWhy why.WriteFault = Unit {0}
IsDiskWhy why.Memory = ⊥

-- WHY NOT, over cells and a store that were opened: one of the three refusals, the first that holds; fewer blocks are free than are needed; or a call
-- failed where the count of faults rose
abbrev pub HasTableCause : AtlasState → List Cell → Text → Text → Books → ℕ → ℕ → CopyWhy → Type 0
HasTableCause a cs name fresh b before now (why.Foreign bad) = ⊥
HasTableCause a cs name fresh b before now (why.Refused r) = IsCopyRefusal a name fresh r
HasTableCause a cs name fresh b before now (why.NoBlocks m) = IsShort b m × TableNeeds cs name fresh m.need
HasTableCause a cs name fresh b before now why.ReadFault = Rose before now
HasTableCause a cs name fresh b before now why.WriteFault = Rose before now
HasTableCause a cs name fresh b before now why.Memory = Unit {0}

-- what the image means has one of the three refusals, the first that holds
abbrev pub RefusesMeant : Image → Text → Text → Refusal → Type 0
RefusesMeant image name fresh r = (s : Supply) → (v : KernelState) × Means s image v × IsCopyRefusal (atlas_in (v 0).cell) name fresh r

-- fewer blocks of the image are free than the copy needs; both numbers
pub record LacksBlocks (tells : Type 0) (image : Image) (name fresh : Text) (m : NoBlocks) : Type 0 where
  pub fewer : m.free < m.need
  pub most : m.need ≤ 272
  pub counted : tells → CountsBlocks image name fresh m.need m.free

-- it needs no more than are free
pub record FindsBlocks (image : Image) (name fresh : Text) : Type 0 where
  pub need : ℕ
  pub free : ℕ
  pub enough : need ≤ free
  pub counted : CountsBlocks image name fresh need free

module _ {D : Type 0} (disks : Ghosts D) where
  -- WHY NOT, by the image that the disk held
  abbrev pub HasCopyCause : Text → Text → D → D → CopyWhy → Type 0
  HasCopyCause name fresh old new (why.Foreign bad) = disks.tells → IsForeign (disks.reading old) bad
  HasCopyCause name fresh old new (why.Refused r) = disks.tells → RefusesMeant (disks.reading old) name fresh r
  HasCopyCause name fresh old new (why.NoBlocks m) = LacksBlocks disks.tells (disks.reading old) name fresh m
  HasCopyCause name fresh old new why.ReadFault = Rose (disks.faults old) (disks.faults new)
  HasCopyCause name fresh old new why.WriteFault = Rose (disks.faults old) (disks.faults new)
  HasCopyCause name fresh old new why.Memory = Unit {0}

  -- NOTHING WAS BEGUN FOR THE COPY: only the writes and syncs of an opening were, and a stop leaves images of what was meant
  pub record IsOnlyOpened (old new : D) : Type 0 where
    pub begun : HasBegun disks 138 0 old new
    pub since : disks.tells → HasTurnLeft (disks.reading old) → MeansSince disks old new

  -- each image that a stop may leave now means the state with the copy, which has this number
  pub record PutsCopy (s : Supply) (name fresh : Text) (v : KernelState) (new : D) (number : ℕ) : Type 0 where
    pub copy : LeavesCopyOf disks s name fresh v new
    pub number_is : (l : LeavesCopy name fresh v copy.state) → number ≡ l.number

  -- THE COPY IS MADE, for each supplier
  abbrev pub MadeCopy : Image → Text → Text → Copied D → Type 0
  MadeCopy image name fresh c = (s : Supply) (v : KernelState) → Means s image v → AreLowNumbers image v → PutsCopy s name fresh v c.disk c.number

  -- AT EACH MOMENT from the end of the first sync on a stop leaves an image of what was meant, or of that with the copy
  abbrev pub MeansBeforeOrCopy : Image → Text → Text → Image → Type 0
  MeansBeforeOrCopy image name fresh c = (s : Supply) (v : KernelState) → Means s image v → AreLowNumbers image v → MeansBeforeOr s name fresh v c

  abbrev pub CopiesSince : Text → Text → D → D → Type 0
  CopiesSince name fresh old new = (first t : ℕ) (c : Image) → Ticks (disks.clock old) first → first ≤ t → disks.left_since new t c → MeansBeforeOrCopy (disks.reading old) name fresh c

  -- only where that sync failed nothing more was begun, and a stop leaves what it could leave before
  pub record StopsShortCopy (w : CopyWhy) (old new : D) : Type 0 where
    pub why_is : w ≡ why.WriteFault
    pub short : StopsShort disks opening.WriteFault old new
