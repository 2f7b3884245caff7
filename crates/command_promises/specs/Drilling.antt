-- What the command `drill` leaves.
use Rattle.std.specs.Prelude.{◌⊎◌, ℕ}
use Rattle.script_drill.specs.Drill.{drill}
use Rattle.model_serial.specs.model_births.Fitting.{Fits}
use Rattle.image_facts.specs.model_kernel.State.{KernelState}
use Rattle.image_facts.specs.model_kernel.Steps.{atlas_in}
use Rattle.image_format.specs.image_meaning.Meaning.{Means}
use Rattle.command_source.specs.command_outcomes.Ends.{IsUnrun, LeavesBy}
use Rattle.command_source.specs.command_outcomes.Seen.{Gave, SeenDisk, SeenSink}
use Rattle.command_source.specs.command_outcomes.Statuses.{Ending}
use Rattle.command_source.specs.command_outcomes.declared.faults.Fault.{Fault}
use Rattle.command_source.specs.command_outcomes.declared.faults.Fault.TheVariants.{Memory}
use Rattle.command_promises.specs.Openings.{IsKeptImage, Managers}
use Rattle.command_promises.specs.Manners.{serial}
use Rattle.command_promises.specs.Runs.{IsServed}
use Rattle.command_promises.specs.OfScript.{InRun, StopsScript}
use Rattle.command_promises.specs.Tellings.{summary_of}

module _ (m : Managers) (number : ℕ) (sink : SeenSink) (disk : SeenDisk) (gave : Gave) where
  -- STOPPED by this fault: as any script that was read; or memory ran out for the script, and the disk is as it was
  abbrev pub StopsDrill : Fault → Type 0
  StopsDrill Memory = IsUnrun sink gave Memory × (disk.same ⊎ IsKeptImage disk)
  StopsDrill fault = StopsScript (serial summary_of) m (drill number) sink disk gave fault

  -- WHAT `drill` LEAVES, by how it ended
  abbrev pub DrillLeaves : Ending → Type 0
  DrillLeaves ending = LeavesBy sink (λ Puts. InRun m (drill number) disk (λ b. IsServed (serial summary_of) b disk gave Puts)) StopsDrill ending

-- IT CAN BE DONE: the image means a state, which the drill fits
pub record CanDrill (m : Managers) (number : ℕ) (disk : SeenDisk) : Type 0 where
  pub told : disk.tells
  pub state : KernelState
  pub means : Means m.supply disk.before.reading state
  pub fits : Fits (atlas_in (state 0).cell) (drill number)
