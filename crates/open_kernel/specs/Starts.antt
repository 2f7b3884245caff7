-- A kernel of an image that was opened.
use Rattle.std.specs.Prelude.{◌≡◌, ℕ, ◌<◌, ◌≤◌, ◌^◌}
use Rattle.edge_disk.specs.declared.disk.Disk.{Ghosts}
use Rattle.edge_disk.specs.Disk.{Ticks}
use Rattle.edge_disk.specs.Image.{Image}
use Rattle.kernel_core.specs.model_kernel.State.{KernelState}
use Rattle.open_image.specs.image_meaning.Meaning.{Means}
use Rattle.open_image.specs.open_facts.Images.{AreOfImage, HasLowEpoch}
use Rattle.kernel_core.specs.kernel_core_facts.Kernels.{Held, Lives}
use Rattle.open_image.specs.kernel_laws.Opening.{HasNoBirths, empty_script}
use Rattle.open_image.specs.kernel_invariant.Beginnings.{Beginning, BeginsRight}

-- THE KERNEL IS LIVE in each run that begins with what the image means and whose script has no births, counted from the moment before
-- the opening, with stops looked at from the end of its sync on
abbrev pub LivesFrom : {D : Type 0} → Ghosts D → ℕ → D → Held D → Type 0
LivesFrom disks steps old k = (b : Beginning) (first : ℕ) → BeginsRight b → HasNoBirths b → b.script.steps ≡ steps → Means b.supply (disks.reading old) b.state
    → HasLowEpoch (disks.reading old) → b.since ≡ disks.clock old → Ticks (disks.clock old) first → first ≤ b.first → b.first ≤ disks.clock k.parts.store.disk
    → Lives disks b k

-- no number of the image is too large for a run to begin with: its epoch, and each version that it means
pub record HasLowNumbers (image : Image) (v : KernelState) : Type 0 where
  pub epoch : HasLowEpoch image
  pub versions : (x : ℕ) → (v x).version ≤ 2 ^ 61

-- THE KERNEL IS THE IMAGE'S: with each supply the image means a state, which the cells are, and its chosen records alone are in the log. In
-- each run of nobody that begins with that state, with so many steps of each locus, the kernel is live, whatever the policy; stops are looked
-- at from the end of the sync on
pub record Opens {D : Type 0} (disks : Ghosts D) (steps : ℕ) (old : D) (k : Held D) : Type 0 where
  pub image : AreOfImage (disks.reading old) k.parts.store k.parts.cells
  -- the sync has ended
  pub synced : (first : ℕ) → Ticks (disks.clock old) first → first ≤ disks.clock k.parts.store.disk
  pub run : (b : Beginning) (first : ℕ) → 0 < steps → b.script ≡ empty_script steps → Means b.supply (disks.reading old) b.state → HasLowNumbers (disks.reading old) b.state
      → b.since ≡ disks.clock old → Ticks (disks.clock old) first → first ≤ b.first → b.first ≤ disks.clock k.parts.store.disk
      → Lives disks b k
