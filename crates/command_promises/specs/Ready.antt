-- The kernel of an image that was opened for a script, and why there is none.
use Rattle.std.specs.Prelude.{◌≡◌, ◌⊎◌, ◌≤◌, Some, string_bytes, ⊤}
use Rattle.edge_disk.specs.declared.disk.Disk.{Ghosts}
use Rattle.model_serial.specs.model_births.Fitting.{Fits}
use Rattle.image_facts.specs.model_kernel.Scripts.{Script as Tables}
use Rattle.image_facts.specs.model_kernel.State.{AtlasState, KernelState, Supply}
use Rattle.image_facts.specs.model_kernel.Steps.{atlas_in}
use Rattle.image_facts.specs.Checks.{count_in}
use Rattle.image_format.specs.image_meaning.Foreign.{IsForeign}
use Rattle.image_format.specs.image_meaning.Meaning.{Means}
use Rattle.open_kernel.specs.open_facts.Images.{HasTurnLeft}
use Rattle.kernel_runs.specs.kernel_core_facts.Kernels.{Held, Lives}
use Rattle.open_kernel.specs.kernel_laws.Opening.{empty_script, with_script}
use Rattle.model_serial.specs.model_births.Misfits.{misfit}
use Rattle.script_drill.specs.script_types.declared.refusals.Refusal.{Refusal}
use Rattle.open_kernel.specs.store_facts.State.{books}
use Rattle.open_kernel.specs.store_snapshots.declared.opening.OpenWhy.{OpenWhy}
use Rattle.open_kernel.specs.store_snapshots.declared.opening.OpenWhy.TheVariants as why
use Rattle.command_source.specs.command_outcomes.Seen.{SeenDisk}
use Rattle.command_source.specs.command_outcomes.declared.faults.Fault.{Fault}
use Rattle.command_source.specs.command_outcomes.declared.faults.Fault.TheVariants.{Script, Foreign, DiskFault, Memory}
use Rattle.edge_watched.specs.Handing.{next_moment}
use Rattle.command_promises.specs.Openings.{HasFailedSync, HasOpened, IsKeptImage, KeepsMeaning, Managers, StaysAsRead}

-- THE KERNEL IS READY for the script, whoever the managers are: the image means a state, which the script fits, and while its numbers are
-- low the kernel is live in the run of the script from there, before its births. It has as many blocks as the image, and the opening's sync has
-- ended.
pub record IsReady {D : Type 0} (disks : Ghosts D) (script : Tables) (old : D) (k : Held D) : Type 0 where
  pub opened : (m : Managers) → HasOpened m script (disks.reading old) (disks.clock old) (λ b. Lives disks (with_script b (empty_script b.script.steps)) k)
  pub count : (books k.parts.store).count ≡ count_in (disks.reading old)
  pub synced : next_moment (disks.clock old) ≤ disks.clock k.parts.store.disk

-- WHY THERE IS NONE

-- the refusal is the first reason why the script doesn't fit the atlas
pub record RefusesFor (a : AtlasState) (script : Tables) (refusal : Refusal) : Type 0 where
  pub first : misfit a script ≡ Some (refusal.why, string_bytes refusal.key)
  pub unfit : Fits a script → ⊥

-- the refusal is the first reason why the script doesn't fit the state that the image means, and what it means is kept
pub record HasMisfit (script : Tables) (disk : SeenDisk) (refusal : Refusal) : Type 0 where
  pub state : disk.tells → (s : Supply) → (w : KernelState) × Means s disk.before.reading w × RefusesFor (atlas_in (w 0).cell) script refusal
  pub kept : IsKeptImage disk

-- a call of the disk failed: its sync, or a later one, behind which the image means what it meant
abbrev pub IsUnopened : SeenDisk → Type 0
IsUnopened disk = disk.tells → HasTurnLeft disk.before.reading → HasFailedSync disk ⊎ KeepsMeaning disk

-- THE IMAGE WAS NOT OPENED FOR THE SCRIPT, for this fault: first the image decides, and then the script against it
abbrev pub StopsOpening : Tables → SeenDisk → Fault → Type 0
StopsOpening script disk (Foreign block place) = disk.tells → IsForeign disk.before.reading (record { block = block; place = place }) × StaysAsRead disk
StopsOpening script disk DiskFault = disk.rose × IsUnopened disk
StopsOpening script disk (Script refusal) = HasMisfit script disk refusal
StopsOpening script disk Memory = IsKeptImage disk
StopsOpening script disk fault = ⊥

-- the fault of an image that isn't opened
abbrev pub fault_of_opening : OpenWhy → Fault
fault_of_opening (why.Foreign bad) = Foreign bad.block bad.place
fault_of_opening why.ReadFault = DiskFault
fault_of_opening why.WriteFault = DiskFault
fault_of_opening why.Memory = Memory

-- the fault of a script that doesn't fit the atlas, or for which memory ran out
abbrev pub IsFitFault : AtlasState → Tables → Fault → Type 0
IsFitFault a script (Script refusal) = RefusesFor a script refusal
IsFitFault a script Memory = ⊤
IsFitFault a script fault = ⊥
