-- What each state of a run keeps: its cells, versions, clocks and words.
use Rattle.std.specs.Prelude.{◌≡◌, ◌≤◌, ◌<◌, ◌*◌, ◌↔◌, ℕ}
use Rattle.model_sound_runs.specs.model_kernel.Outcomes.{supplied}
use Rattle.model_sound_runs.specs.model_kernel.Soundness.{IsSound}
use Rattle.model_sound_runs.specs.model_kernel.State.{ContainerCell, ContainerState, KernelState, NotBorn, Supply}
use Rattle.model_sound_runs.specs.model_kernel.Vectors.{StampsBelow}

-- past the container's pages its words are the supplier's
abbrev pub IsSupplied : Supply → ContainerState → Type 0
IsSupplied s c = (address : ℕ) → c.pages * 128 ≤ address → c.words address ≡ supplied s c.tag address

pub record IsSoundState (s : Supply) (w : KernelState) : Type 0 where
  pub sound : IsSound (λ x. (w x).cell)
  -- what is not born has version 0, and nothing else has, the atlas aside
  pub born : (x : ℕ) → 0 < x → ((w x).cell ≡ NotBorn) ↔ ((w x).version ≡ 0)
  -- a clock's own component is the version
  pub own : (x : ℕ) → (w x).stamp x ≡ (w x).version
  -- no component is above its entity's version
  pub below : StampsBelow w
  pub words : (x : ℕ) (c : ContainerState) → (w x).cell ≡ ContainerCell c → IsSupplied s c
