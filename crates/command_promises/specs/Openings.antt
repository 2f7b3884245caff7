-- The image that a run is opened from, and what stays of it where nothing is run.
use Rattle.std.specs.Prelude.{◌≡◌, ◌⊎◌, ◌≤◌, ℕ}
use Rattle.edge_disk.specs.Disk.{Ticks}
use Rattle.edge_disk.specs.Image.{Image}
use Rattle.model_serial.specs.model_births.Fitting.{Fits}
use Rattle.image_facts.specs.model_kernel.Histories.{Policy}
use Rattle.image_facts.specs.model_kernel.Scripts.{Script as Tables}
use Rattle.image_facts.specs.model_kernel.State.{KernelState, Supply}
use Rattle.image_facts.specs.model_kernel.Steps.{atlas_in}
use Rattle.image_format.specs.image_meaning.Meaning.{Means}
use Rattle.open_kernel.specs.open_facts.Images.{HasTurnLeft, MeansSame}
use Rattle.open_kernel.specs.kernel_invariant.Beginnings.{Beginning}
use Rattle.open_kernel.specs.Starts.{HasLowNumbers}
use Rattle.command_source.specs.command_outcomes.Seen.{SeenDisk}
use Rattle.edge_watched.specs.Handing.{next_moment}

-- THE ANSWERS OF THE MANAGERS
pub record Managers : Type 0 where
  pub supply : Supply
  pub policy : Policy

-- THE RUN of a script from a state, on a disk whose clock stands so: marks count from there, and stops are looked at from the end of the
-- opening's sync on
abbrev pub run_from : Managers → Tables → KernelState → ℕ → Beginning
run_from m script w clock = record { supply = m.supply; policy = m.policy; script = script; state = w; since = clock; first = next_moment clock }

-- THE IMAGE WAS OPENED, at this clock: it means a state, which the script fits; and while its numbers are low this holds of the run from there
pub record HasOpened (m : Managers) (script : Tables) (image : Image) (clock : ℕ) (P : Beginning → Type 0) : Type 0 where
  pub state : KernelState
  pub means : Means m.supply image state
  pub fits : Fits (atlas_in (state 0).cell) script
  pub run : HasLowNumbers image state → P (run_from m script state clock)

-- WHERE NOTHING IS RUN

-- the moment after the call's first write or sync
abbrev pub first_moment : SeenDisk → ℕ
first_moment disk = next_moment disk.before.clock

-- the clock doesn't fall; from the end of the opening's sync on each image that a stop leaves means what the handed-in one meant; before it, or
-- where it failed, what it could leave before
pub record KeepsMeaning (disk : SeenDisk) : Type 0 where
  pub later : disk.before.clock ≤ disk.after.clock
  pub since : (t : ℕ) (c : Image) → first_moment disk ≤ t → disk.after.left t c → MeansSame disk.before.reading c
  pub earlier : (t : ℕ) (c : Image) → t ≤ disk.before.clock → disk.after.left t c → disk.before.left t c ⊎ MeansSame disk.before.reading c

-- the opening's sync failed, and no other write or sync was begun: a stop now may leave nothing new
pub record HasFailedSync (disk : SeenDisk) : Type 0 where
  pub one : Ticks disk.before.clock disk.after.clock
  pub may : (c : Image) → disk.after.may c → disk.before.may c

-- and at no moment might one have left anything new
pub record FailsAtSync (disk : SeenDisk) : Type 0 where
  pub failed : HasFailedSync disk
  pub earlier : (t : ℕ) (c : Image) → t ≤ disk.before.clock → disk.after.left t c → disk.before.left t c

-- the blocks are as they read, and the clock doesn't fall; from the end of the opening's sync on a stop leaves just them, and before it nothing new
pub record StaysAsRead (disk : SeenDisk) : Type 0 where
  pub later : disk.before.clock ≤ disk.after.clock
  pub reading : disk.after.reading ≡ disk.before.reading
  pub since : (t : ℕ) (c : Image) → first_moment disk ≤ t → disk.after.left t c → c ≡ disk.before.reading
  pub earlier : (t : ℕ) (c : Image) → t ≤ disk.before.clock → disk.after.left t c → disk.before.left t c

-- where the disk tells its content, and the image's epoch leaves room for the turn of an opening
abbrev pub IsKeptImage : SeenDisk → Type 0
IsKeptImage disk = disk.tells → HasTurnLeft disk.before.reading → KeepsMeaning disk
