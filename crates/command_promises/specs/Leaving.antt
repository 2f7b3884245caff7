-- What the command `run` leaves.
use Rattle.std.specs.Prelude.{◌≡◌, ◌⊎◌, Some}
use Rattle.base_types.specs.declared.limits.TheConstants.{MOST_SCRIPT_BYTES}
use Rattle.model_serial.specs.model_births.Fitting.{Fits}
use Rattle.image_facts.specs.model_kernel.Scripts.{Script as Tables}
use Rattle.image_facts.specs.model_kernel.State.{KernelState, Text}
use Rattle.image_facts.specs.model_kernel.Steps.{atlas_in}
use Rattle.image_format.specs.image_meaning.Foreign.{IsForeign}
use Rattle.image_format.specs.image_meaning.Meaning.{Means}
use Rattle.open_kernel.specs.kernel_invariant.Beginnings.{Beginning}
use Rattle.base_managers.specs.Managing.{ManagerTables}
use Rattle.script_drill.specs.script_types.declared.refusals.Refusal.{Refusal}
use Rattle.command_source.specs.Sources.{HasRead, IsAccepted, IsRefusalOf, StopsInTime}
use Rattle.command_source.specs.command_outcomes.Ends.{IsUnrun, LeavesBy}
use Rattle.command_source.specs.command_outcomes.Seen.{Call, Gave, SeenSource}
use Rattle.command_source.specs.command_outcomes.Statuses.{Ending}
use Rattle.command_source.specs.command_outcomes.declared.faults.Fault.{Fault}
use Rattle.command_source.specs.command_outcomes.declared.faults.Fault.TheVariants.{Script, Foreign, DiskFault, Source, Memory, NoBlocks}
use Rattle.command_promises.specs.Openings.{HasOpened, IsKeptImage, Managers, StaysAsRead}
use Rattle.command_promises.specs.Ready.{HasMisfit}
use Rattle.command_promises.specs.Booked.{over}
use Rattle.command_promises.specs.OfScript.{IsLeftUnopened}
use Rattle.command_promises.specs.Short.{IsCutForBlocks}
use Rattle.command_promises.specs.Manners.{Manner}
use Rattle.command_promises.specs.Runs.{IsCutForMemory, IsCutShort, IsServed}

-- this holds of the run of the script that the source stands for, by the managers that it brings over those that were handed in, on a disk
-- that tells its content
pub record OfRun (m : Managers) (call : Call) (P : Beginning → Type 0) : Type 0 where
  pub script : Tables
  pub brought : ManagerTables
  pub read : HasRead call.source script brought
  pub opened : call.disk.tells → HasOpened (over brought m) script call.disk.before.reading call.disk.before.clock P

-- the source was read, and stands for some script
abbrev pub IsReadOne : SeenSource → Type 0
IsReadOne source = (script : Tables) × (brought : ManagerTables) × HasRead source script brought

-- no more was taken of a source that was not read than of one that is too long
abbrev pub IsLeftInTime : Call → Fault → Type 0
IsLeftInTime call = StopsInTime MOST_SCRIPT_BYTES call.source

-- refused: the source, before any call of the disk; or its script, which doesn't fit the image
abbrev pub IsRefused : Call → Refusal → Type 0
IsRefused call refusal = (IsRefusalOf call.source.before refusal × call.disk.same × IsLeftInTime call (Script refusal)) ⊎ ((script : Tables) × (brought : ManagerTables) × HasRead call.source script brought × HasMisfit script call.disk refusal)

-- STOPPED by this fault. What stops first decides: the source, the image, the script against it, the run.
abbrev pub StopsRun : Manner → Managers → Call → Gave → Fault → Type 0
StopsRun manner m call gave (Script refusal) = IsUnrun call.sink gave (Script refusal) × IsRefused call refusal
StopsRun manner m call gave (Foreign block place) =
    IsUnrun call.sink gave (Foreign block place) × IsReadOne call.source × (call.disk.tells → IsForeign call.disk.before.reading (record { block = block; place = place }) × StaysAsRead call.disk)
StopsRun manner m call gave DiskFault =
    call.disk.rose × ((IsUnrun call.sink gave DiskFault × IsReadOne call.source × IsLeftUnopened call.disk) ⊎ OfRun m call (λ b. IsCutShort manner b call.disk call.sink gave DiskFault))
StopsRun manner m call gave Source = call.source.rose × IsUnrun call.sink gave Source × call.disk.same × IsLeftInTime call Source
StopsRun manner m call gave Memory =
    (IsUnrun call.sink gave Memory × ((call.disk.same × IsLeftInTime call Memory) ⊎ (IsReadOne call.source × IsKeptImage call.disk)))
    ⊎ (manner.may_lack × OfRun m call (λ b. IsCutForMemory manner b call.disk call.sink gave))
StopsRun manner m call gave (NoBlocks n) = OfRun m call (λ b. IsCutForBlocks manner b call.disk call.sink gave n)
StopsRun manner m call gave fault = ⊥

-- WHAT `run` LEAVES, by its manner and by how it ended
abbrev pub RunLeaves : Manner → Managers → Call → Gave → Ending → Type 0
RunLeaves manner m call gave ending = LeavesBy call.sink (λ Puts. OfRun m call (λ b. IsServed manner b call.disk gave Puts)) (StopsRun manner m call gave) ending

-- IT CAN BE DONE: the source is known and accepted, and the image means a state, which the script fits
pub record CanRun (m : Managers) (call : Call) : Type 0 where
  pub told : call.disk.tells
  pub bytes : Text
  pub known : call.source.before ≡ Some bytes
  pub script : Tables
  pub brought : ManagerTables
  pub accepted : IsAccepted bytes script brought
  pub state : KernelState
  pub means : Means (over brought m).supply call.disk.before.reading state
  pub fits : Fits (atlas_in (state 0).cell) script
