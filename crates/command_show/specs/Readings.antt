-- What a command leaves that reads an image and writes nothing to its disk.
use Rattle.std.specs.Prelude.{⊤}
use Rattle.image_reading.specs.model_kernel.State.{Text}
use Rattle.image_reading.specs.image_meaning.Foreign.{IsForeign}
use Rattle.command_outcomes.specs.Ends.{IsUnrun, LeavesBy}
use Rattle.command_outcomes.specs.Seen.{Gave, IsOnlyRead, SeenDisk, SeenSink}
use Rattle.command_outcomes.specs.Statuses.{Ending}
use Rattle.command_outcomes.specs.declared.faults.Fault.{Fault}
use Rattle.command_outcomes.specs.declared.faults.Fault.TheVariants.{Foreign, DiskFault, Memory}

-- WHY THE IMAGE WAS NOT READ: it isn't accepted, with this first bad place; the disk's count of faults rose; or memory ran out
abbrev pub IsUnread : SeenDisk → Fault → Type 0
IsUnread disk (Foreign block place) = disk.tells → IsForeign disk.before.reading (record { block = block; place = place })
IsUnread disk DiskFault = disk.rose
IsUnread disk Memory = ⊤
IsUnread disk fault = ⊥

-- STOPPED by this fault: nothing was run, and the fault's line was put
pub record StopsReading (disk : SeenDisk) (sink : SeenSink) (gave : Gave) (fault : Fault) : Type 0 where
  pub unrun : IsUnrun sink gave fault
  pub why : IsUnread disk fault

-- WHAT IT LEAVES, by how it ended: the disk was only read; where it came to its end, `all` holds, which says what was put
pub record ReadingLeaves (disk : SeenDisk) (sink : SeenSink) (gave : Gave) (all : (Text → Type 0) → Type 0) (ending : Ending) : Type 0 where
  pub only_read : IsOnlyRead disk
  pub ends : LeavesBy sink all (StopsReading disk sink gave) ending
