-- The stamps that steps join are the vectors of the past.
use Rattle.std.proofs.Common.{◌≡◌, ℕ, ◌≤◌, true, false, ◌&&◌, ◌||◌, ◌==◌, if◌then◌else◌, List, [], ◌∷◌, ◌++◌, Option, Some, None, max, refl, sym, ap, subst, ◌∙◌, arith, eqb-true, eq-eqb, ◌⊎◌, inl, inr}
use Rattle.std.proofs.Math.Nat.{max-le}
use Rattle.std.specs.List.{list_any}
use Rattle.std.proofs.lemmas.Bool.{false≢true}
use Rattle.base_types.specs.declared.histories.Touch.{Touch}
use Rattle.base_types.specs.declared.histories.Entry.{Entry}
use Rattle.model_kernel.specs.State.{EntityState, KernelState}
use Rattle.model_kernel.specs.Changes.{joined}
use Rattle.model_kernel.specs.LocalEvents.{touch_at, IsLocal}
use Rattle.model_kernel.specs.Parts.{after_entry, after, IsPlayed}
use Rattle.model_kernel.specs.Vectors.{IsStamped, vector_at}
use Rattle.model_kernel.specs.Fronts.{front_to, version_vector}
use Rattle.model_kernel.specs.Pasts.{entities, has, writes_one, rests_on, sources, past, version_in, versions_in, stamps_of, past_vector}
use Rattle.model_kernel.proofs.Basics.{and_left, and_right, both, or_left, or_right}
use Rattle.model_kernel.proofs.Replay.{at_entity, any_at}
use Rattle.model_kernel.proofs.Covering.{found, Is_next, is_next}

joined_split : (w : KernelState) (ts : List Touch) (y : ℕ) → joined w ts y ≡ max (version_in ts y) (stamps_of w (entities ts) y)
joined_split w [] y = refl
joined_split w (t ∷ ts) y = four ((w t.entity).stamp y) (if t.entity == y then t.version else 0) (joined w ts y) (version_in ts y) (stamps_of w (entities ts) y) (joined_split w ts y)
  where
    four : (a b j v s : ℕ) → j ≡ max v s → max (max a b) j ≡ max (max b v) (max a s)
    four a b j v s e = omega arith

stamps_append : (w : KernelState) (xs ys : List ℕ) (y : ℕ) → stamps_of w (xs ++ ys) y ≡ max (stamps_of w xs y) (stamps_of w ys y)
stamps_append w [] ys y = omega arith
stamps_append w (x ∷ xs) ys y = let r = stamps_append w xs ys y in omega arith

-- a touched entity's clock is joined
pub touched_stamp : (w : KernelState) (ts : List Touch) (x : ℕ) (t : Touch) (y : ℕ) → touch_at ts x ≡ Some t → (w x).stamp y ≤ joined w ts y
touched_stamp w [] x t y e = cc
touched_stamp w (u ∷ ts) x t y e =
    elim (u.entity == x) as (λ b. (u.entity == x) ≡ b → (if b then Some u else touch_at ts x) ≡ Some t → (w x).stamp y ≤ max (max ((w u.entity).stamp y) (if u.entity == y then u.version else 0)) (joined w ts y)) [
      | true ↦ λ is h. subst (λ z. (w z).stamp y ≤ max (max ((w u.entity).stamp y) (if u.entity == y then u.version else 0)) (joined w ts y)) (eqb-true _ _ is) (omega arith)
      | false ↦ λ is h. let r = touched_stamp w ts x t y h in omega arith
    ] refl e

module _ (act : KernelState → Option (Entry × KernelState)) (local : IsLocal (λ (b : EntityState). b.version) act) (stamped : IsStamped act) (w : KernelState) (r : Entry × KernelState) (is : act w ≡ Some r) where
  -- an entity after the event has the stamp that it had, or the joined one if it is written
  Kept : ℕ → Type 0
  Kept x = (r.1 x ≡ w x) × ((t : Touch) → touch_at r.0.touched x ≡ Some t → t.wrote ≡ false)

  Joined : ℕ → Type 0
  Joined x = ((y : ℕ) → (r.1 x).stamp y ≡ joined w r.0.touched y) × ((y : ℕ) → (w x).stamp y ≤ joined w r.0.touched y) × ((t : Touch) × (touch_at r.0.touched x ≡ Some t) × (t.wrote ≡ true))

  cases : (x : ℕ) → Kept x ⊎ Joined x
  unfolding Kept Joined
  cases x =
      elim (touch_at r.0.touched x) as (λ o. touch_at r.0.touched x ≡ o → Kept x ⊎ Joined x) [
        | None ↦ λ e. inl (local.stays w r is x e, λ t f. cc)
        | Some t ↦ λ e. elim t.wrote as (λ b. t.wrote ≡ b → Kept x ⊎ Joined x) [
          | true ↦ λ wrote. inr (λ y. stamped.joins w r is x t e wrote y, λ y. touched_stamp w r.0.touched x t y e, (t, e, wrote))
          | false ↦ λ read. inl ((local.reads w r is x t e read).0, λ u f. let same : t ≡ u = cc in ap (λ k. k.wrote) (sym same) ∙ read)
        ] refl
      ] refl

  -- no more than the joined stamps and those before
  at_most : (zs : List ℕ) (y n : ℕ) → joined w r.0.touched y ≤ n → stamps_of w zs y ≤ n → stamps_of r.1 zs y ≤ n
  unfolding Kept Joined
  at_most [] y n j s = omega arith
  at_most (z ∷ zs) y n j s =
      let rest = at_most zs y n j (omega arith) in
      max-le (elim (cases z) as (λ _. (r.1 z).stamp y ≤ n) [
        | inl k ↦ (let e = ap (λ (b : EntityState). b.stamp y) k.0 in omega arith)
        | inr k ↦ (let e = k.0 y in omega arith)
      ]) rest

  -- no less than those before
  at_least : (zs : List ℕ) (y : ℕ) → stamps_of w zs y ≤ stamps_of r.1 zs y
  unfolding Kept Joined
  at_least [] y = omega arith
  at_least (z ∷ zs) y =
      let rest = at_least zs y in
      elim (cases z) as (λ _. max ((w z).stamp y) (stamps_of w zs y) ≤ max ((r.1 z).stamp y) (stamps_of r.1 zs y)) [
        | inl k ↦ (let e = ap (λ (b : EntityState). b.stamp y) k.0 in omega arith)
        | inr k ↦ (let e = k.0 y in let f = k.1 y in omega arith)
      ]

  -- with one of zs written, no less than the joined ones
  has_written : (zs : List ℕ) (x y : ℕ) → has zs x ≡ true → (r.1 x).stamp y ≤ stamps_of r.1 zs y
  has_written [] x y h = cc
  has_written (z ∷ zs) x y h =
      elim (z == x) as (λ b. (z == x) ≡ b → (b || has zs x) ≡ true → (r.1 x).stamp y ≤ max ((r.1 z).stamp y) (stamps_of r.1 zs y)) [
        | true ↦ λ at h. subst (λ x. (r.1 x).stamp y ≤ max ((r.1 z).stamp y) (stamps_of r.1 zs y)) (eqb-true _ _ at) (omega arith)
        | false ↦ λ at h. let rest = has_written zs x y h in omega arith
      ] refl h

  met : (zs : List ℕ) (y : ℕ) → writes_one zs r.0 ≡ true → joined w r.0.touched y ≤ stamps_of r.1 zs y
  met zs y h =
      let f = found (λ t. t.wrote && has zs t.entity) r.0.touched (stamped.rising w r is) h in
      let wrote = and_left f.1.wrote (has zs f.1.entity) f.3 in
      let at = at_entity r.0.touched f.0 f.1 f.2 in
      let in_zs : has zs f.0 ≡ true = subst (λ x. has zs x ≡ true) at (and_right f.1.wrote (has zs f.1.entity) f.3) in
      let e = stamped.joins w r is f.0 f.1 f.2 wrote y in
      let k = has_written zs f.0 y in_zs in
      omega arith

  -- with none written, the same
  unmet_by : (zs : List ℕ) (y : ℕ) → ((x : ℕ) (t : Touch) → has zs x ≡ true → touch_at r.0.touched x ≡ Some t → t.wrote ≡ true → ⊥) → stamps_of r.1 zs y ≡ stamps_of w zs y
  unfolding Kept Joined
  unmet_by [] y h = refl
  unmet_by (z ∷ zs) y h =
      let rest = unmet_by zs y (λ x t k. h x t (or_right (z == x) (has zs x) k)) in
      elim (cases z) as (λ _. max ((r.1 z).stamp y) (stamps_of r.1 zs y) ≡ max ((w z).stamp y) (stamps_of w zs y)) [
        | inl k ↦ (λ i. max ((k.0 i).stamp y) (rest i))
        | inr k ↦ absurd (h z k.2.0 (or_left (z == z) (has zs z) (eq-eqb z z refl)) k.2.1 k.2.2)
      ]

  unmet : (zs : List ℕ) (y : ℕ) → writes_one zs r.0 ≡ false → stamps_of r.1 zs y ≡ stamps_of w zs y
  unmet zs y none = unmet_by zs y (λ x t h e wrote.
      let at = at_entity r.0.touched x t e in
      let some = any_at (λ t. t.wrote && has zs t.entity) r.0.touched x t e (both _ _ wrote (subst (λ x. has zs x ≡ true) (sym at) h)) in
      false≢true (sym none ∙ some))

  -- one entry back
  pub one_back : (zs : List ℕ) (y : ℕ) → stamps_of r.1 zs y ≡ max (if writes_one zs r.0 then version_in r.0.touched y else 0) (stamps_of w (rests_on r.0 zs) y)
  one_back zs y =
      elim (writes_one zs r.0) as (λ b. writes_one zs r.0 ≡ b → stamps_of r.1 zs y ≡ max (if b then version_in r.0.touched y else 0) (stamps_of w (if b then entities r.0.touched ++ zs else zs) y)) [
        | true ↦ λ some.
            let j = joined_split w r.0.touched y in
            let a = stamps_append w (entities r.0.touched) zs y in
            let low = met zs y some in
            let keep = at_least zs y in
            let n = max (version_in r.0.touched y) (stamps_of w (entities r.0.touched ++ zs) y) in
            let high = at_most zs y (max (version_in r.0.touched y) (stamps_of w (entities r.0.touched ++ zs) y)) (omega arith) (omega arith) in
            omega arith
        | false ↦ λ none. let e = unmet zs y none in omega arith
      ] refl

module _ (act : Entry → KernelState → Option (Entry × KernelState)) (local : (e : Entry) → IsLocal (λ (b : EntityState). b.version) (act e)) (stamped : (e : Entry) → IsStamped (act e)) where
  back_over : (w : KernelState) (e : Entry) (zs : List ℕ) (y : ℕ) → Is_next (λ _. 0) act local stamped w e
      → stamps_of (after_entry act w e) zs y ≡ max (if writes_one zs e then version_in e.touched y else 0) (stamps_of w (rests_on e zs) y)
  unfolding Is_next
  back_over w e zs y next =
      elim next as (λ _. stamps_of (after_entry act w e) zs y ≡ max (if writes_one zs e then version_in e.touched y else 0) (stamps_of w (rests_on e zs) y)) [
        | inl r ↦ subst (λ (v : KernelState). stamps_of v zs y ≡ max (if writes_one zs e then version_in e.touched y else 0) (stamps_of w (rests_on e zs) y)) (sym r.3)
            (subst (λ (k : Entry). stamps_of r.0.1 zs y ≡ max (if writes_one zs k then version_in k.touched y else 0) (stamps_of w (rests_on k zs) y)) r.2 (one_back (act e) (local e) (stamped e) w r.0 r.1 zs y))
        | inr r ↦ subst (λ (v : KernelState). stamps_of v zs y ≡ max (if writes_one zs e then version_in e.touched y else 0) (stamps_of w (rests_on e zs) y)) (sym r.1)
            (subst (λ (ts : List Touch). stamps_of w zs y ≡ max (if list_any (λ t. t.wrote && has zs t.entity) ts then version_in ts y else 0) (stamps_of w (if list_any (λ t. t.wrote && has zs t.entity) ts then entities ts ++ zs else zs) y)) (sym r.0) (omega arith))
      ]

  -- the versions that the entries of a past carry, one entry at a time
  past_more : (e : Entry) (es : List Entry) (zs : List ℕ) (y : ℕ) → versions_in (past (e ∷ es) zs) y ≡ max (if writes_one (sources es zs) e then version_in e.touched y else 0) (versions_in (past es zs) y)
  past_more e es zs y =
      elim (writes_one (sources es zs) e) as (λ b. versions_in (if b then e ∷ past es zs else past es zs) y ≡ max (if b then version_in e.touched y else 0) (versions_in (past es zs) y)) [ true ↦ refl | false ↦ omega arith ]

  -- over a whole history
  pub stamps_are : (es : List Entry) (w : KernelState) (zs : List ℕ) (y : ℕ) → IsPlayed act w es → stamps_of (after act w es) zs y ≡ max (versions_in (past es zs) y) (stamps_of w (sources es zs) y)
  stamps_are [] w zs y played = omega arith
  stamps_are (e ∷ es) w zs y played =
      let rest = stamps_are es (after_entry act w e) zs y played.1 in
      let back = back_over w e (sources es zs) y (is_next (λ _. 0) act local stamped w e played.0) in
      let head = past_more e es zs y in
      omega arith

  -- the stamp of an entity after a history is the vector of its past
  pub stamp_is : (es : List Entry) (w : KernelState) (x y : ℕ) → IsPlayed act w es → (after act w es x).stamp y ≡ past_vector w es x y
  stamp_is es w x y played = let r = stamps_are es w (x ∷ []) y played in omega arith

  -- the stamp at the first place of a version is the one after the entries up to there
  stamp_at_front : (es : List Entry) (w : KernelState) (x n : ℕ) → vector_at act w es x n ≡ (after act w (front_to act w es x n) x).stamp
  stamp_at_front [] w x n = refl
  stamp_at_front (e ∷ es) w x n =
      elim ((w x).version == n) as (λ b. (if◌then◌else◌ {A = ℕ → ℕ} b (w x).stamp (vector_at act (after_entry act w e) es x n)) ≡ (after act w (if b then [] else e ∷ front_to act (after_entry act w e) es x n) x).stamp) [
        | true ↦ refl
        | false ↦ stamp_at_front es (after_entry act w e) x n
      ]

  front_played : (es : List Entry) (w : KernelState) (x n : ℕ) → IsPlayed act w es → IsPlayed act w (front_to act w es x n)
  front_played [] w x n played = tt
  front_played (e ∷ es) w x n played =
      elim ((w x).version == n) as (λ b. IsPlayed act w (if b then [] else e ∷ front_to act (after_entry act w e) es x n)) [
        | true ↦ tt
        | false ↦ (played.0, front_played es (after_entry act w e) x n played.1)
      ]

  -- so the stamp of a version is its vector
  pub vector_is : (es : List Entry) (w : KernelState) (x n y : ℕ) → IsPlayed act w es → vector_at act w es x n y ≡ version_vector act w es x n y
  vector_is es w x n y played = ap (λ (f : ℕ → ℕ). f y) (stamp_at_front es w x n) ∙ stamp_is (front_to act w es x n) w x y (front_played es w x n played)
