-- Versions and clocks over one event.
use Rattle.std.proofs.Common.{◌≡◌, ℕ, ◌≤◌, ◌<◌, true, false, ◌==◌, if◌then◌else◌, List, [], ◌∷◌, Option, Some, None, max, refl, sym, ap, ◌∙◌, arith, eqb-true}
use Rattle.model_sound_runs.specs.base_types.Touches.{IsRising}
use Rattle.model_sound_runs.specs.base_types.declared.histories.Entry.{Entry}
use Rattle.model_sound_runs.specs.base_types.declared.histories.Touch.{Touch}
use Rattle.model_sound_runs.specs.model_kernel.Changes.{joined}
use Rattle.model_sound_runs.specs.model_kernel.LocalEvents.{IsLocal, touch_at}
use Rattle.model_sound_runs.specs.model_kernel.State.{EntityState, KernelState}
use Rattle.model_sound_runs.specs.model_kernel.Vectors.{IsStamped, StampsBelow}
use Rattle.model_sound_runs.proofs.model_kernel_lemmas.Covering.{all_touch_at}
use Rattle.model_sound_runs.proofs.model_kernel_lemmas.Replay.{at_entity}

-- the joined clock is at most v at y where all clocks are, and the touch of y
joined_top : (w : KernelState) (ts : List Touch) (y v : ℕ) → IsRising ts → ((x : ℕ) → (w x).stamp y ≤ v) → ((t : Touch) → touch_at ts y ≡ Some t → t.version ≤ v) → joined w ts y ≤ v
joined_top w [] y v rising low own = omega arith
joined_top w (t ∷ ts) y v rising low own =
    let clock = low t.entity in
    elim (t.entity == y) as (λ b. (t.entity == y) ≡ b → ((u : Touch) → (if b then Some t else touch_at ts y) ≡ Some u → u.version ≤ v) → max (max ((w t.entity).stamp y) (if b then t.version else 0)) (joined w ts y) ≤ v) [
      | true ↦ λ is own. (
          let here = own t refl in
          let rest = joined_top w ts y v rising.1 low (λ u e. absurd (only_one u e is)) in
          omega (arith, clock, here, rest))
      | false ↦ λ is own. (let rest = joined_top w ts y v rising.1 low own in omega (arith, clock, rest))
    ] refl own
  where
    only_one : (u : Touch) → touch_at ts y ≡ Some u → (t.entity == y) ≡ true → ⊥
    only_one u e is =
        let above = all_touch_at (λ v. t.entity < v.entity) ts y u rising.0 e in
        let at = at_entity ts y u e in
        let same = eqb-true _ _ is in
        omega (arith, above, at, same)

-- and at least the touch's version
joined_here : (w : KernelState) (ts : List Touch) (y : ℕ) (t : Touch) → touch_at ts y ≡ Some t → t.version ≤ joined w ts y
joined_here w [] y t e = cc
joined_here w (u ∷ ts) y t e =
    elim (u.entity == y) as (λ b. (if b then Some u else touch_at ts y) ≡ Some t → t.version ≤ max (max ((w u.entity).stamp y) (if b then u.version else 0)) (joined w ts y)) [
      | true ↦ λ e. (let same : u ≡ t = cc in let v : u.version ≡ t.version = ap (λ (t : Touch). t.version) same in omega (arith, v))
      | false ↦ λ e. (let rest = joined_here w ts y t e in omega (arith, rest))
    ] e

module _ (act : KernelState → Option (Entry × KernelState)) (local : IsLocal (λ (b : EntityState). b.version) act) (stamped : IsStamped act) (w : KernelState) (r : Entry × KernelState) (is : act w ≡ Some r) (below : StampsBelow w) where
  rises : (x : ℕ) → (w x).version ≤ (r.1 x).version
  rises x =
      elim (touch_at r.0.touched x) as (λ o. touch_at r.0.touched x ≡ o → (w x).version ≤ (r.1 x).version) [
        | None ↦ λ e. (let same = ap (λ (b : EntityState). b.version) (local.stays w r is x e) in omega (arith, same))
        | Some t ↦ λ e. elim t.wrote as (λ b. t.wrote ≡ b → (w x).version ≤ (r.1 x).version) [
          | true ↦ λ wrote. (let q = local.writes w r is x t e wrote in let a = q.0 in let b = q.1 in omega (arith, a, b))
          | false ↦ λ read. (let same = ap (λ (b : EntityState). b.version) (local.reads w r is x t e read).0 in omega (arith, same))
        ] refl
      ] refl

  touch_low : (y : ℕ) (t : Touch) → touch_at r.0.touched y ≡ Some t → t.version ≤ (r.1 y).version
  touch_low y t e =
      elim t.wrote as (λ b. t.wrote ≡ b → t.version ≤ (r.1 y).version) [
        | true ↦ λ wrote. (let a = (local.writes w r is y t e wrote).0 in omega (arith, a))
        | false ↦ λ read. (let q = local.reads w r is y t e read in let same = ap (λ (b : EntityState). b.version) q.0 in let v = q.1 in omega (arith, same, v))
      ] refl

  joined_low : (y : ℕ) → joined w r.0.touched y ≤ (r.1 y).version
  joined_low y = joined_top w r.0.touched y (r.1 y).version (stamped.rising w r is) (λ x. let a = below x y in let b = rises y in omega (arith, a, b)) (touch_low y)

  stays_below : (x y : ℕ) → r.1 x ≡ w x → (r.1 x).stamp y ≤ (r.1 y).version
  stays_below x y same = (let a = below x y in let b = rises y in let e = ap (λ (k : EntityState). k.stamp y) same in omega (arith, a, b, e))

  -- no clock is above the versions after the event
  pub event_below : StampsBelow r.1
  event_below x y =
      elim (touch_at r.0.touched x) as (λ o. touch_at r.0.touched x ≡ o → (r.1 x).stamp y ≤ (r.1 y).version) [
        | None ↦ λ e. stays_below x y (local.stays w r is x e)
        | Some t ↦ λ e. elim t.wrote as (λ b. t.wrote ≡ b → (r.1 x).stamp y ≤ (r.1 y).version) [
          | true ↦ λ wrote. (let j = stamped.joins w r is x t e wrote y in let low = joined_low y in omega (arith, j, low))
          | false ↦ λ read. stays_below x y (local.reads w r is x t e read).0
        ] refl
      ] refl

  own_stays : (x : ℕ) → (w x).stamp x ≡ (w x).version → r.1 x ≡ w x → (r.1 x).stamp x ≡ (r.1 x).version
  own_stays x own same = ap (λ (k : EntityState). k.stamp x) same ∙ own ∙ sym (ap (λ (k : EntityState). k.version) same)

  -- and each clock's own component is the version
  pub event_own : ((x : ℕ) → (w x).stamp x ≡ (w x).version) → (x : ℕ) → (r.1 x).stamp x ≡ (r.1 x).version
  event_own own x =
      elim (touch_at r.0.touched x) as (λ o. touch_at r.0.touched x ≡ o → (r.1 x).stamp x ≡ (r.1 x).version) [
        | None ↦ λ e. own_stays x (own x) (local.stays w r is x e)
        | Some t ↦ λ e. elim t.wrote as (λ b. t.wrote ≡ b → (r.1 x).stamp x ≡ (r.1 x).version) [
          | true ↦ λ wrote. (
              let j = stamped.joins w r is x t e wrote x in
              let low = joined_low x in
              let high = joined_here w r.0.touched x t e in
              let v = (local.writes w r is x t e wrote).0 in
              omega (arith, j, low, high, v))
          | false ↦ λ read. own_stays x (own x) (local.reads w r is x t e read).0
        ] refl
      ] refl
