-- Stamps against closed parts.
use Rattle.std.specs.Prelude.{◌≡◌, ℕ, ◌≤◌, ◌==◌, if◌then◌else◌, true, List, [], ◌∷◌, Option, Some}
use Rattle.base_types.specs.declared.histories.Touch.{Touch}
use Rattle.base_types.specs.declared.histories.Entry.{Entry}
use Rattle.base_types.specs.Touches.{AllTouches, IsRising}
use Rattle.model_kernel.specs.State.{KernelState}
use Rattle.model_kernel.specs.Changes.{joined}
use Rattle.model_kernel.specs.LocalEvents.{touch_at}
use Rattle.model_kernel.specs.Parts.{after_entry, after}

-- An event that joins stamps: each written entity gets the greatest of the stamps and versions that the event meets.
pub record IsStamped (act : KernelState → Option (Entry × KernelState)) : Type 0 where
  pub rising : (w : KernelState) (r : Entry × KernelState) → act w ≡ Some r → IsRising r.0.touched
  pub carries : (w : KernelState) (r : Entry × KernelState) → act w ≡ Some r → AllTouches (λ t. (w t.entity).version ≤ t.version) r.0.touched
  pub joins : (w : KernelState) (r : Entry × KernelState) → act w ≡ Some r → (x : ℕ) (t : Touch) → touch_at r.0.touched x ≡ Some t → t.wrote ≡ true
      → (y : ℕ) → (r.1 x).stamp y ≡ joined w r.0.touched y

-- the stamp of each version within p is within p
abbrev pub CoversAt : (ℕ → ℕ) → KernelState → Type 0
CoversAt p w = (x y : ℕ) → (w x).version ≤ p x → (w x).stamp y ≤ p y

-- at each place of the history
abbrev pub Covers : (Entry → KernelState → Option (Entry × KernelState)) → (ℕ → ℕ) → KernelState → List Entry → Type 0
Covers act p w [] = CoversAt p w
Covers act p w (e ∷ es) = CoversAt p w × Covers act p (after_entry act w e) es

-- the vector of x at the version n: its stamp at the first place where it has that version
abbrev pub vector_at : (Entry → KernelState → Option (Entry × KernelState)) → KernelState → List Entry → ℕ → ℕ → ℕ → ℕ
vector_at act w [] x n = (w x).stamp
vector_at act w (e ∷ es) x n = if (w x).version == n then (w x).stamp else vector_at act (after_entry act w e) es x n

-- each entity has a version from the first to the last
abbrev pub IsPart : (Entry → KernelState → Option (Entry × KernelState)) → KernelState → List Entry → (ℕ → ℕ) → Type 0
IsPart act w es p = (x : ℕ) → ((w x).version ≤ p x) × (p x ≤ (after act w es x).version)

-- each chosen version's vector is at most the choice in each component
abbrev pub CoversChosen : (Entry → KernelState → Option (Entry × KernelState)) → (ℕ → ℕ) → KernelState → List Entry → Type 0
CoversChosen act p w es = (x y : ℕ) → vector_at act w es x (p x) y ≤ p y

-- no stamp is above the versions
abbrev pub StampsBelow : KernelState → Type 0
StampsBelow w = (x y : ℕ) → (w x).stamp y ≤ (w y).version
