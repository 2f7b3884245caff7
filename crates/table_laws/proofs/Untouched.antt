-- What a step doesn't touch: where it gives one entry in states that differ in an entity's version.
use Rattle.std.proofs.Common.{◌≡◌, ◌≢◌, ℕ, ◌+◌, true, false, ◌==◌, if◌then◌else◌, Some, None, refl, ap, arith, eq-eqb, ne_eqb}
use Rattle.cell_steps.specs.base_types.declared.histories.Entry.{Entry}
use Rattle.cell_steps.specs.base_types.declared.histories.Touch.{Touch}
use Rattle.cell_steps.specs.model_kernel.Histories.{writes}
use Rattle.cell_steps.specs.model_kernel.LocalEvents.{touch_at}
use Rattle.cell_steps.specs.model_kernel.State.{Supply, EntityState, KernelState}
use Rattle.cell_steps.specs.model_kernel.Steps.{step}
use Rattle.cell_steps.proofs.model_kernel_lemmas.Locality.{step_local}
use Rattle.model_sound_states.proofs.model_sound_runs_lemmas.Lengths.{not_written}

-- the state with one version more of the entity
pub raised : KernelState → ℕ → KernelState
raised w z = λ y. if y == z then record { cell = (w y).cell; version = (w y).version + 1; stamp = (w y).stamp } else w y

pub raised_apart : (w : KernelState) (z y : ℕ) → y ≢ z → raised w z y ≡ w y
unfolding raised
raised_apart w z y apart = ap (λ b. if b then record { cell = (w y).cell; version = (w y).version + 1; stamp = (w y).stamp } else w y) (ne_eqb y z apart)

raised_here : (w : KernelState) (z : ℕ) → (raised w z z).version ≡ (w z).version + 1
unfolding raised
raised_here w z = ap (λ b. let e : EntityState = if b then record { cell = (w z).cell; version = (w z).version + 1; stamp = (w z).stamp } else w z in e.version) (eq-eqb z z refl)

-- what the touch tells is the version, or the next one
told : (s : Supply) (me : ℕ) (w v : KernelState) (e : Entry) (z : ℕ) (t : Touch) → step s me w ≡ Some (e, v) → touch_at e.touched z ≡ Some t → (w z).version + (if t.wrote then 1 else 0) ≡ t.version
told s me w v e z t is f = elim t.wrote as (λ b. t.wrote ≡ b → (w z).version + (if b then 1 else 0) ≡ t.version) [
  | true ↦ λ wrote. ((step_local s me).writes w (e, v) is z t f wrote).1
  | false ↦ λ read. (let same = ((step_local s me).reads w (e, v) is z t f read).1 in omega (arith, same))
] refl

-- a step that gives the same entry there touches nothing of the entity
pub untouched : (s : Supply) (me : ℕ) (w v v' : KernelState) (e : Entry) (z : ℕ) → step s me w ≡ Some (e, v) → step s me (raised w z) ≡ Some (e, v') → touch_at e.touched z ≡ None
untouched s me w v v' e z is is' = elim (touch_at e.touched z) as (λ o. touch_at e.touched z ≡ o → o ≡ None) [
  | None ↦ λ f. refl
  | Some t ↦ λ f. (
      let first = told s me w v e z t is f in
      let second = told s me (raised w z) v' e z t is' f in
      let more = raised_here w z in
      absurd (omega (arith, first, second, more)))
] refl

-- so it stays, and isn't written
pub untouched_stays : (s : Supply) (me : ℕ) (w v : KernelState) (e : Entry) (z : ℕ) → step s me w ≡ Some (e, v) → touch_at e.touched z ≡ None → v z ≡ w z
untouched_stays s me w v e z is none = (step_local s me).stays w (e, v) is z none

pub untouched_unwritten : (e : Entry) (z : ℕ) → touch_at e.touched z ≡ None → writes e z ≡ false
untouched_unwritten e z none = not_written e.touched z none
