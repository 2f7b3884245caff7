-- What the command `format` leaves.
use Rattle.std.specs.Prelude.{◌≡◌, ◌⊎◌, ◌≤◌, ◌<◌, ℕ}
use Rattle.edge_disk.specs.Disk.{Only}
use Rattle.edge_disk.specs.Image.{Image, SameOutside}
use Rattle.edge_disk.specs.declared.disk.NoBlocks.{NoBlocks}
use Rattle.command_outcomes.specs.model_kernel.State.{Supply, empty_state}
use Rattle.image_format.specs.image_meaning.Empty.{IsFormatted}
use Rattle.image_format.specs.image_meaning.Meaning.{Means}
use Rattle.image_format.specs.Formats.{IsAreaGate, IsClosed, IsMade}
use Rattle.command_outcomes.specs.Ends.{IsSilent, IsUnrun}
use Rattle.command_outcomes.specs.Seen.{Gave, LeavesImages, SeenDisk, SeenSink}
use Rattle.command_outcomes.specs.Statuses.{Ending, Stopped, Unput, Whole, Wrong}
use Rattle.command_outcomes.specs.declared.faults.Fault.{Fault}
use Rattle.command_outcomes.specs.declared.faults.Fault.TheVariants as fault
use Rattle.image_format.specs.declared.formatting.FormatWhy.{FormatWhy}
use Rattle.image_format.specs.declared.formatting.FormatWhy.TheVariants.{Small, WriteFault}

-- the fault of a formatting that failed
abbrev pub fault_of_format : FormatWhy → Fault
fault_of_format (Small n) = fault.NoBlocks n
fault_of_format WriteFault = fault.DiskFault

-- WHOLE: no line was put. The disk reads as an empty image of so many blocks, with all others as they were; a stop leaves just that, which
-- means the state in which nothing but the atlas is born.
pub record HasFormatted (blocks : ℕ) (disk : SeenDisk) (sink : SeenSink) (gave : Gave) : Type 0 where
  pub silent : IsSilent sink gave
  pub enough : blocks ≤ disk.before.blocks
  pub made : disk.tells → IsMade blocks disk.before.reading disk.after.reading
  pub stable : disk.tells → Only disk.after.reading disk.after.may
  pub means : disk.tells → (s : Supply) (c : Image) → disk.after.may c → Means s c empty_state

-- while it is made: an image that a stop could leave before, with any bytes in the gates of the areas; one with no open area; or the empty one
abbrev pub IsHalfMade : ℕ → SeenDisk → Image → Type 0
IsHalfMade blocks disk c = ((from : Image) × disk.before.may from × SameOutside IsAreaGate from c) ⊎ IsClosed c ⊎ IsFormatted blocks c

-- the disk has fewer blocks, with both numbers, and it is as it was
pub record IsTooSmall (blocks : ℕ) (disk : SeenDisk) (n : NoBlocks) : Type 0 where
  pub fewer : disk.before.blocks < blocks
  pub numbers : n ≡ record { need = blocks; free = disk.before.blocks }
  pub same : disk.same

-- the disk has the blocks, a call of it failed, and at no moment a stop left anything but what is there while an image is made
pub record IsBroken (blocks : ℕ) (disk : SeenDisk) : Type 0 where
  pub enough : blocks ≤ disk.before.blocks
  pub rose : disk.rose
  pub moments : disk.tells → LeavesImages disk (IsHalfMade blocks disk)

-- STOPPED by this fault: one of these two
abbrev pub StopsFormat : ℕ → SeenDisk → SeenSink → Gave → Fault → Type 0
StopsFormat blocks disk sink gave (fault.NoBlocks n) = IsUnrun sink gave (fault.NoBlocks n) × IsTooSmall blocks disk n
StopsFormat blocks disk sink gave fault.DiskFault = IsUnrun sink gave fault.DiskFault × IsBroken blocks disk
StopsFormat blocks disk sink gave fault = ⊥

-- WHAT `format` LEAVES of so many blocks, by how it ended
abbrev pub FormatLeaves : ℕ → SeenDisk → SeenSink → Gave → Ending → Type 0
FormatLeaves blocks disk sink gave Whole = HasFormatted blocks disk sink gave
FormatLeaves blocks disk sink gave Unput = ⊥
FormatLeaves blocks disk sink gave (Stopped fault) = StopsFormat blocks disk sink gave fault
FormatLeaves blocks disk sink gave (Wrong line want) = ⊥
