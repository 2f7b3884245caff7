-- The vector law by the chosen versions alone: stamps only grow.
use Rattle.std.proofs.Common.{◌≡◌, ℕ, ◌+◌, ◌≤◌, ◌<◌, true, false, ◌==◌, if◌then◌else◌, List, [], ◌∷◌, Option, Some, None, refl, sym, ap, subst, ◌∙◌, arith, eqb-true, eq-eqb, ◌⊎◌, inl, inr}
use Rattle.base_types.specs.declared.histories.Entry.{Entry}
use Rattle.model_kernel.specs.State.{EntityState, KernelState}
use Rattle.model_kernel.specs.LocalEvents.{touch_at, IsLocal}
use Rattle.model_kernel.specs.Parts.{after_entry, IsNext, IsPlayed}
use Rattle.model_kernel.specs.Vectors.{IsStamped, Covers, vector_at, CoversChosen}
use Rattle.model_kernel.proofs.Covering.{Is_next, is_next}
use Rattle.model_kernel.proofs.PastVectors.{touched_stamp}
use Rattle.model_kernel.proofs.Basics.{lt_of_ne}

module _ (act : Entry → KernelState → Option (Entry × KernelState)) (local : (e : Entry) → IsLocal (λ (b : EntityState). b.version) (act e)) (stamped : (e : Entry) → IsStamped (act e)) where
  -- an entity stays, or rises by one with a stamp that is no less
  unfoldable pub Moves : KernelState → KernelState → ℕ → Type 0
  Moves w v x = (v x ≡ w x) ⊎ (((v x).version ≡ (w x).version + 1) × ((y : ℕ) → (w x).stamp y ≤ (v x).stamp y))

  moves_by : (e : Entry) (w : KernelState) (r : Entry × KernelState) → act e w ≡ Some r → (x : ℕ) → Moves w r.1 x
  unfolding Moves
  moves_by e w r is x =
      elim (touch_at r.0.touched x) as (λ o. touch_at r.0.touched x ≡ o → Moves w r.1 x) [
        | None ↦ λ f. inl ((local e).stays w r is x f)
        | Some t ↦ λ f. elim t.wrote as (λ b. t.wrote ≡ b → Moves w r.1 x) [
          | true ↦ λ wrote. let q = (local e).writes w r is x t f wrote in
              inr (q.0 ∙ sym q.1, λ y. let j = (stamped e).joins w r is x t f wrote y in let k = touched_stamp w r.0.touched x t y f in omega arith)
          | false ↦ λ read. inl ((local e).reads w r is x t f read).0
        ] refl
      ] refl

  -- so it is over an entry
  pub moves : (w : KernelState) (e : Entry) → IsNext act w e → (x : ℕ) → Moves w (after_entry act w e) x
  unfolding Moves Is_next
  moves w e next x =
      elim (is_next (λ _. 0) act local stamped w e next) as (λ _. Moves w (after_entry act w e) x) [
        | inl r ↦ subst (λ (v : KernelState). Moves w v x) (sym r.3) (moves_by e w r.0 r.1 x)
        | inr r ↦ inl (λ i. r.1 i x)
      ]

  stamp_low : (es : List Entry) (w : KernelState) (x n y : ℕ) → IsPlayed act w es → (w x).stamp y ≤ vector_at act w es x n y
  unfolding Moves
  stamp_low [] w x n y played = omega arith
  stamp_low (e ∷ es) w x n y played =
      let rest = stamp_low es (after_entry act w e) x n y played.1 in
      elim ((w x).version == n) as (λ b. (w x).stamp y ≤ (if◌then◌else◌ {A = ℕ → ℕ} b (w x).stamp (vector_at act (after_entry act w e) es x n)) y) [
        | true ↦ omega arith
        | false ↦ elim (moves w e played.0 x) as (λ _. (w x).stamp y ≤ vector_at act (after_entry act w e) es x n y) [
          | inl k ↦ (let f = ap (λ (b : EntityState). b.stamp y) k in omega arith)
          | inr k ↦ (let f = k.1 y in omega arith)
        ]
      ]

  -- an entity that has its chosen version keeps it while that version is not passed
  pub same_vector : (es : List Entry) (v : KernelState) (x n : ℕ) → (v x).version ≡ n → vector_at act v es x n ≡ (v x).stamp
  same_vector [] v x n e = refl
  same_vector (d ∷ es) v x n e = let t : ((v x).version == n) ≡ true = eq-eqb _ _ e in rw t refl

  next_vector : (es : List Entry) (e : Entry) (w : KernelState) (p : ℕ → ℕ) (x : ℕ) → IsNext act w e → (after_entry act w e x).version ≤ p x
      → vector_at act (after_entry act w e) es x (p x) ≡ vector_at act w (e ∷ es) x (p x)
  unfolding Moves
  next_vector es e w p x next below =
      elim ((w x).version == p x) as (λ b. ((w x).version == p x) ≡ b → vector_at act (after_entry act w e) es x (p x) ≡ (if b then (w x).stamp else vector_at act (after_entry act w e) es x (p x))) [
        | true ↦ λ is.
            let at : (w x).version ≡ p x = eqb-true _ _ is in
            elim (moves w e next x) as (λ _. vector_at act (after_entry act w e) es x (p x) ≡ (w x).stamp) [
              | inl k ↦ same_vector es (after_entry act w e) x (p x) (ap (λ (b : EntityState). b.version) k ∙ at) ∙ ap (λ (b : EntityState). b.stamp) k
              | inr k ↦ absurd (omega arith)
            ]
        | false ↦ λ is. refl
      ] refl

  no_fall : (w : KernelState) (e : Entry) → IsNext act w e → (x n : ℕ) → (after_entry act w e x).version ≤ n → (w x).version ≤ n
  unfolding Moves
  no_fall w e next x n h = elim (moves w e next x) as (λ _. (w x).version ≤ n) [
    | inl k ↦ (let f = ap (λ (b : EntityState). b.version) k in omega arith)
    | inr k ↦ (let f = k.0 in omega arith)
  ]

  -- where the chosen stamps are within, all stamps within are
  pub covers_of_chosen : (es : List Entry) (w : KernelState) (p : ℕ → ℕ) → IsPlayed act w es → ((x y : ℕ) → (w x).version ≤ p x → vector_at act w es x (p x) y ≤ p y) → Covers act p w es
  covers_of_chosen [] w p played h = h
  covers_of_chosen (e ∷ es) w p played h = (
    λ x y below. let a = stamp_low (e ∷ es) w x (p x) y played in let b : vector_at act w (e ∷ es) x (p x) y ≤ p y = h x y below in omega arith,
    covers_of_chosen es (after_entry act w e) p played.1 (λ x y below.
        let earlier : (w x).version ≤ p x = no_fall w e played.0 x (p x) below in
        subst (λ (g : ℕ → ℕ). g y ≤ p y) (sym (next_vector es e w p x played.0 below)) (h x y earlier)),
  )

  chosen_at : (es : List Entry) (w : KernelState) (p : ℕ → ℕ) (x y : ℕ) → IsPlayed act w es → (w x).version ≤ p x → Covers act p w es → vector_at act w es x (p x) y ≤ p y
  unfolding Moves
  chosen_at [] w p x y played low c = c x y low
  chosen_at (e ∷ es) w p x y played low c =
      elim ((w x).version == p x) as (λ b. ((w x).version == p x) ≡ b → (if◌then◌else◌ {A = ℕ → ℕ} b (w x).stamp (vector_at act (after_entry act w e) es x (p x))) y ≤ p y) [
        | true ↦ λ is. c.0 x y low
        | false ↦ λ is.
            let less : (w x).version < p x = lt_of_ne _ _ low is in
            chosen_at es (after_entry act w e) p x y played.1
            (elim (moves w e played.0 x) as (λ _. (after_entry act w e x).version ≤ p x) [
              | inl k ↦ (let f = ap (λ (b : EntityState). b.version) k in omega arith)
              | inr k ↦ (let f = k.0 in omega arith)
            ]) c.1
      ] refl

  -- and the other way round
  pub chosen_of_covers : (es : List Entry) (w : KernelState) (p : ℕ → ℕ) → IsPlayed act w es → ((x : ℕ) → (w x).version ≤ p x) → Covers act p w es → CoversChosen act p w es
  chosen_of_covers es w p played low c x y = chosen_at es w p x y played (low x) c
