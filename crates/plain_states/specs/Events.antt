-- Events on plain states: the model's entry, cells and versions.
use Rattle.std.specs.Prelude.{◌≡◌, ℕ, ◌^◌, ◌<◌, List, Option, Some, slice_index, All}
use Rattle.base_types.specs.declared.histories.Entry.{Entry}
use Rattle.model_kernel.specs.State.{Supply, Cell, KernelState}
use Rattle.model_kernel.specs.Births.{birth}
use Rattle.model_kernel.specs.Scripts.{Script}
use Rattle.model_kernel.specs.State.{Text}
use Rattle.model_kernel.specs.Steps.{step}

-- the state with these cells and versions, and with these vector clocks
abbrev pub state_with : (ℕ → Cell) → List ℕ → (ℕ → ℕ → ℕ) → KernelState
state_with cells versions stamps = λ x. record { cell = cells x; version = slice_index versions x; stamp = stamps x }

-- the state has these cells and versions
pub record Has (w : KernelState) (seen : ℕ → Cell) (versions : List ℕ) : Type 0 where
  pub cells : (x : ℕ) → (w x).cell ≡ seen x
  pub numbers : (x : ℕ) → (w x).version ≡ slice_index versions x

-- whatever the vector clocks are, the event gives this entry and leaves these cells and versions
abbrev pub Makes : (KernelState → Option (Entry × KernelState)) → (ℕ → Cell) → List ℕ → Entry → (ℕ → Cell) → List ℕ → Type 0
Makes event old us e new vs = (stamps : ℕ → ℕ → ℕ) → (w : KernelState) × (event (state_with old us stamps) ≡ Some (e, w)) × Has w new vs

-- a step of the locus does
abbrev pub StepsTo : Supply → ℕ → (ℕ → Cell) → List ℕ → Entry → (ℕ → Cell) → List ℕ → Type 0
StepsTo s l old us e new vs = Makes (step s l) old us e new vs

-- the birth of the name does
abbrev pub Bears : Supply → Script → Text → (ℕ → Cell) → List ℕ → Entry → (ℕ → Cell) → List ℕ → Type 0
Bears s script name old us e new vs = Makes (birth s script name) old us e new vs

-- nothing changed
pub record Stays (old : ℕ → Cell) (us : List ℕ) (new : ℕ → Cell) (vs : List ℕ) : Type 0 where
  pub cells : (x : ℕ) → new x ≡ old x
  pub versions : vs ≡ us

-- each version can rise
abbrev pub AreFewVersions : List ℕ → Type 0
AreFewVersions versions = All (λ v. v < 2 ^ 63) versions
