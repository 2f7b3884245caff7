-- States that differ in clocks alone.
use Rattle.std.specs.Prelude.{◌≡◌, ℕ, List, Some}
use Rattle.base_types.specs.declared.histories.Touch.{Touch}
use Rattle.model_kernel.specs.LocalEvents.{touch_at}
use Rattle.model_kernel.specs.State.{KernelState}

-- the entity is the same in both but for its clock
pub record IsAlikeAt (w v : KernelState) (x : ℕ) : Type 0 where
  pub cell : (w x).cell ≡ (v x).cell
  pub version : (w x).version ≡ (v x).version

-- all entities are
abbrev pub AreAlike : KernelState → KernelState → Type 0
AreAlike w v = (x : ℕ) → IsAlikeAt w v x

-- each touched entity is
abbrev pub TouchesAlike : KernelState → KernelState → List Touch → Type 0
TouchesAlike w v ts = (x : ℕ) (t : Touch) → touch_at ts x ≡ Some t → IsAlikeAt w v x
