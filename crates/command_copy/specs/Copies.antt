-- What the command `copy` leaves.
use Rattle.std.specs.Prelude.{◌≡◌, ◌⊎◌, ◌≤◌, ◌<◌, ◌+◌, ℕ, ◌++◌, None, codes, decimal}
use Rattle.edge_disk.specs.Image.{Image}
use Rattle.edge_disk.specs.declared.disk.NoBlocks.{NoBlocks}
use Rattle.script_types.specs.declared.refusals.Refusal.{Refusal}
use Rattle.command_outcomes.specs.Ends.{IsEmpty, IsUnrun, LeavesBy}
use Rattle.command_outcomes.specs.Faults.{line}
use Rattle.command_outcomes.specs.Seen.{Gave, SeenDisk, SeenSink}
use Rattle.command_outcomes.specs.Statuses.{Ending}
use Rattle.command_outcomes.specs.declared.faults.Fault.{Fault}
use Rattle.command_outcomes.specs.declared.faults.Fault.TheVariants as fault
use Rattle.command_promises.specs.Openings.{FailsAtSync, IsKeptImage, StaysAsRead, first_moment}
use Rattle.container_copy.specs.copy_commits.Putting.{MeansBeforeOr}
use Rattle.container_copy.specs.Copying.{AreLowNumbers}
use Rattle.container_copy.specs.Leaving.{RefusesMeant}
use Rattle.container_copy.specs.Needs.{spelt_blocks}
use Rattle.container_copy.specs.declared.copying.CopyWhy.{CopyWhy}
use Rattle.container_copy.specs.declared.copying.CopyWhy.TheVariants as why
use Rattle.container_copy.specs.cell_copies.Refusals.{copy_refusal}
use Rattle.container_copy.specs.model_copies.Copies.{IsCopied}
use Rattle.container_copy.specs.model_copies.Needing.{LeavesCopy}
use Rattle.container_copy.specs.model_copies.model_kernel.State.{KernelState, Supply, Text}
use Rattle.container_copy.specs.model_copies.model_kernel.Steps.{atlas_in}
use Rattle.container_copy.specs.image_meaning.Foreign.{IsForeign}
use Rattle.container_copy.specs.image_meaning.Meaning.{Means}
use Rattle.container_copy.specs.open_facts.Images.{HasTurnLeft}

-- the fault of a copy that was not made
abbrev pub fault_of_copy : CopyWhy → Fault
fault_of_copy (why.Foreign bad) = fault.Foreign bad.block bad.place
fault_of_copy (why.Refused refusal) = fault.Script refusal
fault_of_copy (why.NoBlocks n) = fault.NoBlocks n
fault_of_copy why.ReadFault = fault.DiskFault
fault_of_copy why.WriteFault = fault.DiskFault
fault_of_copy why.Memory = fault.Memory

-- THE LINE of a copy: its name and its number
abbrev pub number_end : ℕ → Text
number_end number = line (codes " " ++ decimal number)

abbrev pub copied_text : Text → ℕ → Text
copied_text fresh number = codes "copied " ++ fresh ++ number_end number

-- THE COPY IS IN EACH IMAGE of these, and it has this number
pub record HaveCopy (s : Supply) (name fresh : Text) (v : KernelState) (may : Image → Type 0) (number : ℕ) : Type 0 where
  pub state : KernelState
  pub copied : IsCopied name fresh v state
  pub left : (c : Image) → may c → Means s c state
  pub number_is : (l : LeavesCopy name fresh v state) → number ≡ l.number

-- an image means what the handed-in one meant, or that with the copy
abbrev pub MeansOldOrCopy : Image → Text → Text → Image → Type 0
MeansOldOrCopy image name fresh c = (s : Supply) (v : KernelState) → Means s image v → AreLowNumbers image v → MeansBeforeOr s name fresh v c

-- AT EACH MOMENT: the clock doesn't fall; from the end of the opening's sync on each image that a stop leaves means the one or the other; before it
-- what it could leave before
pub record KeepsOrCopies (name fresh : Text) (disk : SeenDisk) : Type 0 where
  pub later : disk.before.clock ≤ disk.after.clock
  pub since : (t : ℕ) (c : Image) → first_moment disk ≤ t → disk.after.left t c → MeansOldOrCopy disk.before.reading name fresh c
  pub earlier : (t : ℕ) (c : Image) → t ≤ disk.before.clock → disk.after.left t c → disk.before.left t c ⊎ MeansOldOrCopy disk.before.reading name fresh c

-- where the disk tells its content, and the image's epoch leaves room for the turn of an opening
abbrev pub IsKeptOrCopied : Text → Text → SeenDisk → Type 0
IsKeptOrCopied name fresh disk = disk.tells → HasTurnLeft disk.before.reading → KeepsOrCopies name fresh disk

-- the same, or the opening's sync failed, and nothing more was begun
abbrev pub IsLeftCopying : Text → Text → SeenDisk → Type 0
IsLeftCopying name fresh disk = disk.tells → HasTurnLeft disk.before.reading → FailsAtSync disk ⊎ KeepsOrCopies name fresh disk

-- what the image means can be copied in, so: the image is accepted, and none of the three refusals holds
pub record MeansCopied (s : Supply) (image : Image) (name fresh : Text) : Type 0 where
  pub before : KernelState
  pub means : Means s image before
  pub state : KernelState
  pub copied : IsCopied name fresh before state
  pub leaves : LeavesCopy name fresh before state

-- so many blocks are needed for pages of the container, and for both new blobs
pub record NeedsBoth (s : Supply) (image : Image) (name fresh : Text) (need : ℕ) : Type 0 where
  pub can : MeansCopied s image name fresh
  pub pages : ℕ
  pub need_is : need ≡ pages + (spelt_blocks (can.state 0).cell + spelt_blocks (can.state can.leaves.number).cell)

-- WHOLE: nothing was run, each image that a stop may leave has the copy, and its line was put
pub record HasCopied (name fresh : Text) (disk : SeenDisk) (gave : Gave) (Puts : Text → Type 0) : Type 0 where
  pub empty : IsEmpty gave
  pub number : ℕ
  pub can : disk.tells → (s : Supply) → MeansCopied s disk.before.reading name fresh
  pub made : disk.tells → (s : Supply) (v : KernelState) → Means s disk.before.reading v → AreLowNumbers disk.before.reading v → HaveCopy s name fresh v disk.after.may number
  pub moments : IsKeptOrCopied name fresh disk
  pub output : Puts (copied_text fresh number)

-- the refusal is the first of the three that holds in what the image means, which is kept
pub record RefusesCopy (name fresh : Text) (disk : SeenDisk) (refusal : Refusal) : Type 0 where
  pub why : disk.tells → RefusesMeant disk.before.reading name fresh refusal
  pub kept : IsKeptImage disk

-- fewer blocks are free than the copy needs, and what the image means is kept
pub record WantsBlocks (name fresh : Text) (disk : SeenDisk) (n : NoBlocks) : Type 0 where
  pub fewer : n.free < n.need
  pub most : n.need ≤ 272
  pub counted : disk.tells → (s : Supply) → NeedsBoth s disk.before.reading name fresh n.need
  pub kept : IsKeptImage disk

-- STOPPED by this fault: nothing was run, and its line was put
abbrev pub WhyNoCopy : Text → Text → SeenDisk → Fault → Type 0
WhyNoCopy name fresh disk (fault.Script refusal) = RefusesCopy name fresh disk refusal
WhyNoCopy name fresh disk (fault.Foreign block place) = disk.tells → IsForeign disk.before.reading (record { block = block; place = place }) × StaysAsRead disk
WhyNoCopy name fresh disk fault.DiskFault = disk.rose × IsLeftCopying name fresh disk
WhyNoCopy name fresh disk fault.Memory = IsKeptImage disk
WhyNoCopy name fresh disk (fault.NoBlocks n) = WantsBlocks name fresh disk n
WhyNoCopy name fresh disk fault.Usage = ⊥
WhyNoCopy name fresh disk fault.Source = ⊥

pub record StopsCopy (name fresh : Text) (disk : SeenDisk) (sink : SeenSink) (gave : Gave) (fault : Fault) : Type 0 where
  pub unrun : IsUnrun sink gave fault
  pub why : WhyNoCopy name fresh disk fault

-- WHAT `copy` LEAVES, by how it ended
abbrev pub CopyLeaves : Text → Text → SeenDisk → SeenSink → Gave → Ending → Type 0
CopyLeaves name fresh disk sink gave = LeavesBy sink (HasCopied name fresh disk gave) (StopsCopy name fresh disk sink gave)

-- IT CAN BE DONE: the disk tells its content, which means a state where none of the three refusals holds
pub record CanCopy (name fresh : Text) (disk : SeenDisk) : Type 0 where
  pub told : disk.tells
  pub supply : Supply
  pub state : KernelState
  pub means : Means supply disk.before.reading state
  pub none : copy_refusal (atlas_in (state 0).cell) name fresh ≡ None
