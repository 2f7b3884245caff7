-- What is kept of a run on the disk.
use Rattle.std.specs.Prelude.{◌≡◌, ◌⊎◌, ◌≤◌, ◌<◌, ◌+◌, ◌-◌, ◌^◌, ℕ, List, Some, slice_get}
use Rattle.edge_disk.specs.declared.disk.Disk.{Ghosts}
use Rattle.edge_disk.specs.Image.{Image}
use Rattle.base_types.specs.declared.histories.Entry.{Entry}
use Rattle.image_facts.specs.model_kernel.Choices.{Commit}
use Rattle.image_facts.specs.model_kernel.State.{KernelState}
use Rattle.image_format.specs.image_meaning.Meaning.{Means}
use Rattle.open_kernel.specs.kernel_invariant.Beginnings.{Beginning, completed, with_tried}
use Rattle.open_kernel.specs.kernel_invariant.Left.{IsCutImage, IsCutState}
use Rattle.open_kernel.specs.kernel_invariant.Marks.{AreMarks}
use Rattle.command_source.specs.command_outcomes.Seen.{Gave, SeenDisk}

-- THE IMAGE IS THE CUT OF ALL RECORDS that the history completed, with the one that was tried or without it
pub record IsWholeCut (b : Beginning) (es : List Entry) (c : Image) : Type 0 where
  pub commits : List Commit
  pub all : (commits ≡ completed b es) ⊎ (commits ≡ with_tried b es)
  pub state : KernelState
  pub cut : IsCutState b.supply b.script b.state es commits state
  pub means : Means b.supply c state

-- WHAT IS KEPT
pub record IsKept (b : Beginning) (disk : SeenDisk) (gave : Gave) : Type 0 where
  -- a mark for each Snap and Stable, none falling, each within its bound
  pub marks : AreMarks b.supply b.script b.state gave.history gave.marks
  -- at the return the opening's sync was begun, and each mark is at most the clock
  pub begun : b.first ≤ disk.after.clock
  pub acked : disk.after.clock < 2 ^ 64 - 1 → (i mark : ℕ) → slice_get gave.marks i ≡ Some mark → b.since + mark ≤ disk.after.clock
  -- a stop at any moment from the end of the opening's sync on leaves a cut that holds all records acknowledged by then
  pub moments : (t : ℕ) (c : Image) → b.first ≤ t → disk.after.left t c → IsCutImage b gave.history gave.marks disk.after.clock t c
  -- a stop after the return leaves the cut of all records
  pub returns : disk.after.clock < 2 ^ 64 - 1 → (c : Image) → disk.after.may c → IsWholeCut b gave.history c
  -- and one at an earlier moment what it had left before the call
  pub earlier : (t : ℕ) (c : Image) → t ≤ disk.before.clock → disk.after.left t c → disk.before.left t c ⊎ disk.after.left b.first c

-- what a stop had left before the first moment is what it could leave before the call, or leaves it since
abbrev pub GoesOnFrom : {D : Type 0} → Ghosts D → ℕ → D → D → Type 0
GoesOnFrom disks first old new = (t : ℕ) (c : Image) → t ≤ disks.clock old → disks.left_since new t c → disks.left_since old t c ⊎ disks.left_since new first c
