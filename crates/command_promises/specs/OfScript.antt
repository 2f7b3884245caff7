-- What the run of a script leaves that was read.
use Rattle.std.specs.Prelude.{◌⊎◌}
use Rattle.image_facts.specs.model_kernel.Scripts.{Script as Tables}
use Rattle.image_format.specs.image_meaning.Foreign.{IsForeign}
use Rattle.open_kernel.specs.open_facts.Images.{HasTurnLeft}
use Rattle.open_kernel.specs.kernel_invariant.Beginnings.{Beginning}
use Rattle.command_source.specs.command_outcomes.Ends.{IsUnrun, LeavesBy}
use Rattle.command_source.specs.command_outcomes.Seen.{Gave, SeenDisk, SeenSink}
use Rattle.command_source.specs.command_outcomes.Statuses.{Ending}
use Rattle.command_source.specs.command_outcomes.declared.faults.Fault.{Fault}
use Rattle.command_source.specs.command_outcomes.declared.faults.Fault.TheVariants.{Script, Foreign, DiskFault, Memory, NoBlocks}
use Rattle.command_promises.specs.Openings.{FailsAtSync, HasOpened, IsKeptImage, KeepsMeaning, Managers, StaysAsRead}
use Rattle.command_promises.specs.Ready.{HasMisfit}
use Rattle.command_promises.specs.Manners.{Manner}
use Rattle.command_promises.specs.Runs.{IsCutForMemory, IsCutShort, IsServed}
use Rattle.command_promises.specs.Short.{IsCutForBlocks}

-- the image could not be opened, for a call of the disk that failed: its sync, or a later one, behind which the image means what it meant
abbrev pub IsLeftUnopened : SeenDisk → Type 0
IsLeftUnopened disk = disk.tells → HasTurnLeft disk.before.reading → FailsAtSync disk ⊎ KeepsMeaning disk

-- this holds of the run of the script from the state that the image means, where the disk tells its content
abbrev pub InRun : Managers → Tables → SeenDisk → (Beginning → Type 0) → Type 0
InRun m script disk P = disk.tells → HasOpened m script disk.before.reading disk.before.clock P

module _ (manner : Manner) (m : Managers) (script : Tables) (sink : SeenSink) (disk : SeenDisk) (gave : Gave) where
  -- STOPPED by this fault: the image first, then the script against it, and then the run
  abbrev pub StopsScript : Fault → Type 0
  StopsScript (Script refusal) = IsUnrun sink gave (Script refusal) × HasMisfit script disk refusal
  StopsScript (Foreign block place) = IsUnrun sink gave (Foreign block place) × (disk.tells → IsForeign disk.before.reading (record { block = block; place = place }) × StaysAsRead disk)
  StopsScript DiskFault = disk.rose × ((IsUnrun sink gave DiskFault × IsLeftUnopened disk) ⊎ InRun m script disk (λ b. IsCutShort manner b disk sink gave DiskFault))
  StopsScript Memory = (IsUnrun sink gave Memory × IsKeptImage disk) ⊎ (manner.may_lack × InRun m script disk (λ b. IsCutForMemory manner b disk sink gave))
  StopsScript (NoBlocks n) = InRun m script disk (λ b. IsCutForBlocks manner b disk sink gave n)
  StopsScript fault = ⊥

  -- WHAT IT LEAVES, by how it ended
  abbrev pub ScriptLeaves : Ending → Type 0
  ScriptLeaves ending = LeavesBy sink (λ Puts. InRun m script disk (λ b. IsServed manner b disk gave Puts)) StopsScript ending
