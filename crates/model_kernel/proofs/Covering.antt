-- The vector law: a part is closed exactly where it covers the stamps of all versions within it.
use Rattle.std.proofs.Common.{◌≡◌, ℕ, ◌≤◌, ◌<◌, Bool, true, false, ◌&&◌, ◌||◌, ◌==◌, nat_le, if◌then◌else◌, List, [], ◌∷◌, Option, Some, None, option_map, max, refl, sym, ap, subst, ◌∙◌, arith, eqb-true, eq-eqb, ◌⊎◌, inl, inr}
use Rattle.std.proofs.Math.Nat.{max-le, le-max_left, le-max_right}
use Rattle.std.proofs.lemmas.Bool.{leb-true, le-leb}
use Rattle.std.specs.List.{list_any}
use Rattle.base_types.specs.declared.histories.Touch.{Touch}
use Rattle.base_types.specs.declared.histories.Entry.{Entry}
use Rattle.model_kernel.specs.State.{EntityState, KernelState}
use Rattle.model_kernel.specs.Changes.{joined}
use Rattle.model_kernel.specs.LocalEvents.{touch_at, IsLocal}
use Rattle.model_kernel.specs.Parts.{is_event, all_within, some_within, IsClosed, after_entry, IsNext, IsPlayed}
use Rattle.base_types.specs.Touches.{AllTouches, IsRising}
use Rattle.model_kernel.specs.Vectors.{IsStamped, CoversAt, Covers}
use Rattle.model_kernel.proofs.Basics.{some_of_map, and_left, and_right, both}
use Rattle.model_kernel.proofs.Replay.{at_entity, any_at}

-- what holds of all touches holds of the one at x
pub all_touch_at : (P : Touch → Type 0) (ts : List Touch) (x : ℕ) (t : Touch) → AllTouches P ts → touch_at ts x ≡ Some t → P t
all_touch_at P [] x t a e = cc
all_touch_at P (u ∷ ts) x t a e =
    elim (u.entity == x) as (λ b. (if b then Some u else touch_at ts x) ≡ Some t → P t) [
      | true ↦ λ h. let same : u ≡ t = cc in subst P same a.0
      | false ↦ λ h. all_touch_at P ts x t a.1 h
    ] e

-- a touch that passes, as one looks it up
pub found : (f : Touch → Bool) (ts : List Touch) → IsRising ts → list_any f ts ≡ true → (x : ℕ) × (t : Touch) × (touch_at ts x ≡ Some t) × (f t ≡ true)
found f [] rising h = cc
found f (u ∷ ts) rising h =
    elim (f u) as (λ b. f u ≡ b → (b || list_any f ts) ≡ true → (x : ℕ) × (t : Touch) × (touch_at (u ∷ ts) x ≡ Some t) × (f t ≡ true)) [
      | true ↦ λ is h. (u.entity, u, rw (eq-eqb u.entity u.entity refl) refl, is)
      | false ↦ λ is h.
          let r = found f ts rising.1 h in
          let above = all_touch_at (λ v. u.entity < v.entity) ts r.0 r.1 rising.0 r.2 in
          let at = at_entity ts r.0 r.1 r.2 in (
            r.0,
            r.1,
            elim (u.entity == r.0) as (λ b. (u.entity == r.0) ≡ b → (if b then Some u else touch_at ts r.0) ≡ Some r.1) [
              | true ↦ λ same. let e = eqb-true _ _ same in absurd (omega arith)
              | false ↦ λ _. r.2
            ] refl,
            r.3,
          )
    ] refl h

module _ (p : ℕ → ℕ) where
  joined_below : (w : KernelState) (ts : List Touch) → AllTouches (λ t. (w t.entity).version ≤ t.version) ts → all_within p ts ≡ true → CoversAt p w → (y : ℕ) → joined w ts y ≤ p y
  joined_below w [] a h c y = omega arith
  joined_below w (t ∷ ts) a h c y =
      let low : t.version ≤ p t.entity = leb-true _ _ (and_left (nat_le t.version (p t.entity)) (all_within p ts) h) in
      max-le (max-le (c t.entity y (omega arith))
      (elim (t.entity == y) as (λ b. (t.entity == y) ≡ b → (if b then t.version else 0) ≤ p y) [
        | true ↦ λ is. subst (λ y. t.version ≤ p y) (eqb-true _ _ is) low
        | false ↦ λ is. omega arith
      ] refl))
      (joined_below w ts a.1 (and_right (nat_le t.version (p t.entity)) (all_within p ts) h) c y)

  joined_above : (w : KernelState) (ts : List Touch) → ((y : ℕ) → joined w ts y ≤ p y) → all_within p ts ≡ true
  joined_above w [] h = refl
  joined_above w (t ∷ ts) h =
      let own : (if t.entity == t.entity then t.version else 0) ≡ t.version = rw (eq-eqb t.entity t.entity refl) refl in
      let a = le-max_right ((w t.entity).stamp t.entity) (if t.entity == t.entity then t.version else 0) in
      let b = le-max_left (max ((w t.entity).stamp t.entity) (if t.entity == t.entity then t.version else 0)) (joined w ts t.entity) in
      let c = h t.entity in
      both _ _ (le-leb t.version (p t.entity) (omega arith))
      (joined_above w ts (λ y. let d = le-max_right (max ((w t.entity).stamp y) (if t.entity == y then t.version else 0)) (joined w ts y) in let e = h y in omega arith))

  module _ (act : KernelState → Option (Entry × KernelState)) (local : IsLocal (λ (b : EntityState). b.version) act) (stamped : IsStamped act) where
    -- an event all within keeps the stamps within
    pub kept_inside : (w : KernelState) (r : Entry × KernelState) → act w ≡ Some r → all_within p r.0.touched ≡ true → CoversAt p w → CoversAt p r.1
    kept_inside w r is all c x y below =
        elim (touch_at r.0.touched x) as (λ o. touch_at r.0.touched x ≡ o → (r.1 x).stamp y ≤ p y) [
          | None ↦ λ e. let a = local.stays w r is x e in
              subst (λ (b : EntityState). b.stamp y ≤ p y) (sym a) (c x y (subst (λ (b : EntityState). b.version ≤ p x) a below))
          | Some t ↦ λ e. elim t.wrote as (λ b. t.wrote ≡ b → (r.1 x).stamp y ≤ p y) [
            | true ↦ λ wrote. subst (λ n. n ≤ p y) (sym (stamped.joins w r is x t e wrote y)) (joined_below w r.0.touched (stamped.carries w r is) all c y)
            | false ↦ λ read. let a = (local.reads w r is x t e read).0 in
                subst (λ (b : EntityState). b.stamp y ≤ p y) (sym a) (c x y (subst (λ (b : EntityState). b.version ≤ p x) a below))
          ] refl
        ] refl

    -- so does one with no write within
    kept_outside : (w : KernelState) (r : Entry × KernelState) → act w ≡ Some r → some_within p r.0.touched ≡ false → CoversAt p w → CoversAt p r.1
    kept_outside w r is none c x y below =
        elim (touch_at r.0.touched x) as (λ o. touch_at r.0.touched x ≡ o → (r.1 x).stamp y ≤ p y) [
          | None ↦ λ e. let a = local.stays w r is x e in
              subst (λ (b : EntityState). b.stamp y ≤ p y) (sym a) (c x y (subst (λ (b : EntityState). b.version ≤ p x) a below))
          | Some t ↦ λ e. elim t.wrote as (λ b. t.wrote ≡ b → (r.1 x).stamp y ≤ p y) [
            | true ↦ λ wrote.
                let a = (local.writes w r is x t e wrote).0 in
                let at : t.entity ≡ x = at_entity r.0.touched x t e in
                let low : t.version ≤ p t.entity = subst (λ y. t.version ≤ p y) (sym at) (omega arith) in
                let some : some_within p r.0.touched ≡ true = any_at (λ t. t.wrote && nat_le t.version (p t.entity)) r.0.touched x t e (both _ _ wrote (le-leb _ _ low)) in
                cc
            | false ↦ λ read. let a = (local.reads w r is x t e read).0 in
                subst (λ (b : EntityState). b.stamp y ≤ p y) (sym a) (c x y (subst (λ (b : EntityState). b.version ≤ p x) a below))
          ] refl
        ] refl

    -- where the stamps after the event are within, all that a write within touches is
    closes : (w : KernelState) (r : Entry × KernelState) → act w ≡ Some r → CoversAt p r.1 → some_within p r.0.touched ≡ true → all_within p r.0.touched ≡ true
    closes w r is c some =
        let f = found (λ t. t.wrote && nat_le t.version (p t.entity)) r.0.touched (stamped.rising w r is) some in
        let t = f.1 in
        let wrote : t.wrote ≡ true = and_left t.wrote (nat_le t.version (p t.entity)) f.3 in
        let low : t.version ≤ p t.entity = leb-true _ _ (and_right t.wrote (nat_le t.version (p t.entity)) f.3) in
        let at : t.entity ≡ f.0 = at_entity r.0.touched f.0 t f.2 in
        let low' : t.version ≤ p f.0 = subst (λ y. t.version ≤ p y) at low in
        let v = (local.writes w r is f.0 t f.2 wrote).0 in
        joined_above w r.0.touched (λ y. subst (λ n. n ≤ p y) (stamped.joins w r is f.0 t f.2 wrote y) (c f.0 y (omega arith)))

module _ (p : ℕ → ℕ) (act : Entry → KernelState → Option (Entry × KernelState)) (local : (e : Entry) → IsLocal (λ (b : EntityState). b.version) (act e)) (stamped : (e : Entry) → IsStamped (act e)) where
  -- what a played entry is: an event, or nothing at all
  unfoldable pub Is_next : KernelState → Entry → Type 0
  Is_next w e = ((r : Entry × KernelState) × (act e w ≡ Some r) × (r.0 ≡ e) × (after_entry act w e ≡ r.1)) ⊎ ((e.touched ≡ []) × (after_entry act w e ≡ w))

  after_event : (w : KernelState) (e : Entry) → is_event e.event ≡ true → (r : Entry × KernelState) → act e w ≡ Some r → after_entry act w e ≡ r.1
  after_event w e ev r is = rw (ev, is) refl

  -- each played entry is one of the two
  pub is_next : (w : KernelState) (e : Entry) → IsNext act w e → Is_next w e
  unfolding Is_next
  is_next w e next =
      elim (is_event e.event) as (λ b. is_event e.event ≡ b → Is_next w e) [
        | true ↦ λ ev.
            let made : option_map (λ (r : Entry × KernelState). r.0) (act e w) ≡ Some e = rw ev at next in
            let r = some_of_map (λ (r : Entry × KernelState). r.0) (act e w) e made in
            inl (r.0, r.1, r.2, after_event w e ev r.0 r.1)
        | false ↦ λ ev. inr (rw ev at next, rw ev refl)
      ] refl

  covers_at : (w : KernelState) (es : List Entry) → Covers act p w es → CoversAt p w
  covers_at w [] c = c
  covers_at w (e ∷ es) c = c.0

  -- a part that covers the stamps within it is closed
  pub closed_of_covers : (w : KernelState) (es : List Entry) → IsPlayed act w es → Covers act p w es → IsClosed p es
  unfolding Is_next
  closed_of_covers w [] played c = tt
  closed_of_covers w (e ∷ es) played c = (
    elim (is_next w e played.0) as (λ _. some_within p e.touched ≡ true → all_within p e.touched ≡ true) [
      | inl r ↦ λ some.
          let touched : r.0.0.touched ≡ e.touched = ap (λ (e : Entry). e.touched) r.2 in
          ap (all_within p) (sym touched) ∙ closes p (act e) (local e) (stamped e) w r.0 r.1
          (subst (λ (w : KernelState). CoversAt p w) r.3 (covers_at (after_entry act w e) es c.1)) (ap (some_within p) touched ∙ some)
      | inr r ↦ λ some. let bad : false ≡ true = ap (some_within p) (sym r.0) ∙ some in cc
    ],
    closed_of_covers (after_entry act w e) es played.1 c.1,
  )

  -- a closed part covers the stamps within it
  pub covers_of_closed : (w : KernelState) (es : List Entry) → IsPlayed act w es → IsClosed p es → CoversAt p w → Covers act p w es
  unfolding Is_next
  covers_of_closed w [] played closed c = c
  covers_of_closed w (e ∷ es) played closed c = (
    c,
    covers_of_closed (after_entry act w e) es played.1 closed.1
        (elim (is_next w e played.0) as (λ _. CoversAt p (after_entry act w e)) [
          | inl r ↦
              let touched : r.0.0.touched ≡ e.touched = ap (λ (e : Entry). e.touched) r.2 in
              subst (λ (w : KernelState). CoversAt p w) (sym r.3)
              (elim (some_within p e.touched) as (λ b. some_within p e.touched ≡ b → CoversAt p r.0.1) [
                | true ↦ λ some. kept_inside p (act e) (local e) (stamped e) w r.0 r.1 (ap (all_within p) touched ∙ closed.0 some) c
                | false ↦ λ none. kept_outside p (act e) (local e) (stamped e) w r.0 r.1 (ap (some_within p) touched ∙ none) c
              ] refl)
          | inr r ↦ subst (λ (w : KernelState). CoversAt p w) (sym r.1) c
        ]),
  )
