-- The state of a closed part has each entity as it was at its chosen version.
use Rattle.std.proofs.Common.{◌≡◌, ℕ, ◌+◌, ◌≤◌, ◌<◌, Bool, true, false, ◌&&◌, ◌==◌, nat_le, if◌then◌else◌, cond, List, [], ◌∷◌, Option, Some, None, option_map, refl, sym, ap, subst, ◌∙◌, arith, eqb-true, eq-eqb, ◌⊎◌, inl, inr}
use Rattle.std.proofs.lemmas.Bool.{leb-true, le-leb, false≢true}
use Rattle.std.specs.List.{list_any}
use Rattle.base_types.specs.declared.histories.Touch.{Touch}
use Rattle.base_types.specs.declared.histories.Entry.{Entry}
use Rattle.model_kernel.specs.LocalEvents.{touch_at, IsLocal}
use Rattle.model_kernel.specs.Parts.{is_event, all_within, some_within, within, IsClosed, part_of, after_entry, after, IsPlayed, thing_at}
use Rattle.model_kernel.proofs.Basics.{some_of_map, both, and_right, not_false, lt_of_ne}
use Rattle.model_kernel.proofs.Replay.{Follows, all_at, any_at, at_entity, inside, outside, weaker, no_write_within}

module _ {X : Type 0} (version : X → ℕ) (p : ℕ → ℕ) where
  module _ (act : (ℕ → X) → Option (Entry × (ℕ → X))) (local : IsLocal version act) (w : ℕ → X) (r : Entry × (ℕ → X)) (is : act w ≡ Some r) where
    -- with all within: what is at its chosen version or past it stays
    still_inside : all_within p r.0.touched ≡ true → (x : ℕ) → p x ≤ version (w x) → r.1 x ≡ w x
    still_inside all x high =
        elim (touch_at r.0.touched x) as (λ o. touch_at r.0.touched x ≡ o → r.1 x ≡ w x) [
          | None ↦ λ e. local.stays w r is x e
          | Some t ↦ λ e. elim t.wrote as (λ b. t.wrote ≡ b → r.1 x ≡ w x) [
            | true ↦ λ wrote.
                let q = (local.writes w r is x t e wrote).1 in
                let a = all_at (λ t. nat_le t.version (p t.entity)) r.0.touched x t all e in
                let low : t.version ≤ p x = subst (λ y. t.version ≤ p y) a.1 (leb-true _ _ a.0) in
                absurd (omega arith)
            | false ↦ λ read. (local.reads w r is x t e read).0
          ] refl
        ] refl

    -- what is past it isn't touched at all
    untouched_inside : all_within p r.0.touched ≡ true → (x : ℕ) → p x < version (w x) → touch_at r.0.touched x ≡ None
    untouched_inside all x high =
        elim (touch_at r.0.touched x) as (λ o. touch_at r.0.touched x ≡ o → o ≡ None) [
          | None ↦ λ e. refl
          | Some t ↦ λ e.
              let a = all_at (λ t. nat_le t.version (p t.entity)) r.0.touched x t all e in
              let low : t.version ≤ p x = subst (λ y. t.version ≤ p y) a.1 (leb-true _ _ a.0) in
              elim t.wrote as (λ b. t.wrote ≡ b → Some t ≡ None) [
                | true ↦ λ wrote. let q = (local.writes w r is x t e wrote).1 in absurd (omega arith)
                | false ↦ λ read. let q = (local.reads w r is x t e read).1 in absurd (omega arith)
              ] refl
        ] refl

    -- with nothing within: what is below its chosen version stays
    still_outside : some_within p r.0.touched ≡ false → (x : ℕ) → version (w x) < p x → r.1 x ≡ w x
    still_outside none x low =
        elim (touch_at r.0.touched x) as (λ o. touch_at r.0.touched x ≡ o → r.1 x ≡ w x) [
          | None ↦ λ e. local.stays w r is x e
          | Some t ↦ λ e. elim t.wrote as (λ b. t.wrote ≡ b → r.1 x ≡ w x) [
            | true ↦ λ wrote.
                let q = (local.writes w r is x t e wrote).1 in
                let at : t.entity ≡ x = at_entity r.0.touched x t e in
                let l : t.version ≤ p t.entity = subst (λ y. t.version ≤ p y) (sym at) (omega arith) in
                let some : some_within p r.0.touched ≡ true = any_at (λ t. t.wrote && nat_le t.version (p t.entity)) r.0.touched x t e (both _ _ wrote (le-leb _ _ l)) in
                absurd (false≢true (sym none ∙ some))
            | false ↦ λ read. (local.reads w r is x t e read).0
          ] refl
        ] refl

    -- it stays or rises
    no_less : (x : ℕ) → (r.1 x ≡ w x) ⊎ (version (r.1 x) ≡ version (w x) + 1)
    no_less x =
        elim (touch_at r.0.touched x) as (λ o. touch_at r.0.touched x ≡ o → (r.1 x ≡ w x) ⊎ (version (r.1 x) ≡ version (w x) + 1)) [
          | None ↦ λ e. inl (local.stays w r is x e)
          | Some t ↦ λ e. elim t.wrote as (λ b. t.wrote ≡ b → (r.1 x ≡ w x) ⊎ (version (r.1 x) ≡ version (w x) + 1)) [
            | true ↦ λ wrote. let q = local.writes w r is x t e wrote in inr (q.0 ∙ sym q.1)
            | false ↦ λ read. inl (local.reads w r is x t e read).0
          ] refl
        ] refl

module _ {X : Type 0} (version : X → ℕ) (p : ℕ → ℕ) (act : Entry → (ℕ → X) → Option (Entry × (ℕ → X))) (local : (e : Entry) → IsLocal version (act e)) where
  -- what the replay of the part leaves of x
  abbrev pub Chosen : (ℕ → X) → (ℕ → X) → List Entry → ℕ → Type 0
  Chosen w v es x = (version (w x) ≤ p x → after act v (part_of p es) x ≡ thing_at act version w es x (p x)) × (p x < version (w x) → after act v (part_of p es) x ≡ v x)

  at_once : (w : ℕ → X) (es : List Entry) (x : ℕ) → version (w x) ≡ p x → thing_at act version w es x (p x) ≡ w x
  at_once w [] x e = refl
  at_once w (d ∷ es) x e = let t : (version (w x) == p x) ≡ true = eq-eqb _ _ e in rw t refl

  -- one entry: w goes to w', v to v'
  one : (e : Entry) (es : List Entry) (w w' v v' : ℕ → X) (x : ℕ) → after_entry act w e ≡ w' → after act v (part_of p (e ∷ es)) x ≡ after act v' (part_of p es) x
      → Chosen w' v' es x → (version (w x) ≡ p x → (v x ≡ w x) × (((w' x ≡ w x)) ⊎ ((p x < version (w' x)) × (v' x ≡ v x))))
      → (version (w x) < p x → version (w' x) ≤ p x) → (p x < version (w x) → (p x < version (w' x)) × (v' x ≡ v x))
      → Chosen w v (e ∷ es) x
  one e es w w' v v' x next part rest at below past = (
    λ low. elim (version (w x) == p x) as (λ b. (version (w x) == p x) ≡ b → after act v (part_of p (e ∷ es)) x ≡ (if b then w x else thing_at act version (after_entry act w e) es x (p x))) [
      | true ↦ λ is.
          let same = eqb-true _ _ is in
          let a = at same in
          part ∙ elim a.1 as (λ _. after act v' (part_of p es) x ≡ w x) [
            | inl stays ↦ (let v1 : version (w' x) ≡ p x = ap version stays ∙ same in rest.0 (omega arith) ∙ at_once w' es x v1 ∙ stays)
            | inr rises ↦ rest.1 rises.0 ∙ rises.1 ∙ a.0
          ]
      | false ↦ λ is. part ∙ rest.0 (below (lt_of_ne _ _ low is)) ∙ ap (λ (u : ℕ → X). thing_at act version u es x (p x)) (sym next)
    ] refl,
    λ high. let q = past high in part ∙ rest.1 q.0 ∙ q.1,
  )

  -- the entry is in the part, or not
  taken : (e : Entry) (es : List Entry) (v q : ℕ → X) (x : ℕ) → within p e ≡ true → after_entry act v e ≡ q → after act v (part_of p (e ∷ es)) x ≡ after act q (part_of p es) x
  taken e es v q x is next =
      ap (λ (b : Bool). after act v (cond b (e ∷ part_of p es) (part_of p es)) x) is ∙ ap (λ (u : ℕ → X). after act u (part_of p es) x) next

  skipped : (e : Entry) (es : List Entry) (v : ℕ → X) (x : ℕ) → within p e ≡ false → after act v (part_of p (e ∷ es)) x ≡ after act v (part_of p es) x
  skipped e es v x is = ap (λ (b : Bool). after act v (cond b (e ∷ part_of p es) (part_of p es)) x) is

  after_event : (e : Entry) (w : ℕ → X) → is_event e.event ≡ true → (r : Entry × (ℕ → X)) → act e w ≡ Some r → after_entry act w e ≡ r.1
  after_event e w ev r is = rw (ev, is) refl

  module _ (e : Entry) (es : List Entry) (rest : (w v : ℕ → X) → IsPlayed act w es → Follows version p w v → (x : ℕ) → Chosen w v es x) where
    by_event : (w v : ℕ → X) → is_event e.event ≡ true → (r : Entry × (ℕ → X)) → act e w ≡ Some r → r.0 ≡ e → IsPlayed act (after_entry act w e) es
        → (some_within p e.touched ≡ true → all_within p e.touched ≡ true) → Follows version p w v → (x : ℕ) → Chosen w v (e ∷ es) x
    unfolding Follows
    by_event w v ev r is same played closed f x =
        let next : after_entry act w e ≡ r.1 = after_event e w ev r is in
        let played' = subst (λ (u : ℕ → X). IsPlayed act u es) next played in
        let touched : r.0.touched ≡ e.touched = ap (λ (e : Entry). e.touched) same in
        elim (some_within p e.touched) as (λ b. some_within p e.touched ≡ b → Chosen w v (e ∷ es) x) [
          | true ↦ λ some.
              let all = closed some in
              let all' : all_within p r.0.touched ≡ true = ap (all_within p) touched ∙ all in
              let q = inside version p (act e) (local e) w v r is all' f in
              let acts : act e v ≡ Some (e, q.0) = subst (λ (k : Entry). act e v ≡ Some (k, q.0)) same q.1 in
              one e es w r.1 v q.0 x next (taken e es v q.0 x (both _ _ ev (weaker p e.touched all)) (after_event e v ev (e, q.0) acts)) (rest r.1 q.0 played' q.2 x)
              (λ at. (sym (f x (omega arith)), inl (still_inside version p (act e) (local e) w r is all' x (omega arith))))
              (λ low. elim (no_less version p (act e) (local e) w r is x) as (λ _. version (r.1 x) ≤ p x) [ inl k ↦ (let g = ap version k in omega arith) | inr k ↦ omega arith ])
              (λ high.
              let stays = still_inside version p (act e) (local e) w r is all' x (omega arith) in
              let g = ap version stays in
              (omega arith, (local e).stays v (r.0, q.0) q.1 x (untouched_inside version p (act e) (local e) w r is all' x high)))
          | false ↦ λ none.
              let none' : some_within p r.0.touched ≡ false = ap (some_within p) touched ∙ none in
              let f' = outside version p (act e) (local e) w v r is none' f in
              let moved : list_any (λ (t : Touch). t.wrote) e.touched ≡ true = ap (list_any (λ (t : Touch). t.wrote)) (sym touched) ∙ (local e).moves w r is in
              let out : within p e ≡ false = not_false (within p e) (λ h. false≢true (sym none ∙ no_write_within p e.touched moved (and_right _ _ h))) in
              one e es w r.1 v v x next (skipped e es v x out) (rest r.1 v played' f' x)
              (λ at. (sym (f x (omega arith)), elim (no_less version p (act e) (local e) w r is x) as (λ _. (r.1 x ≡ w x) ⊎ ((p x < version (r.1 x)) × (v x ≡ v x))) [ inl k ↦ inl k | inr k ↦ inr (omega arith, refl) ]))
              (λ low. let g = ap version (still_outside version p (act e) (local e) w r is none' x low) in omega arith)
              (λ high. elim (no_less version p (act e) (local e) w r is x) as (λ _. (p x < version (r.1 x)) × (v x ≡ v x)) [ inl k ↦ (let g = ap version k in (omega arith, refl)) | inr k ↦ (omega arith, refl) ])
        ] refl

  -- over a whole history
  pub state_of_part : (es : List Entry) (w v : ℕ → X) → IsPlayed act w es → IsClosed p es → Follows version p w v → (x : ℕ) → Chosen w v es x
  unfolding Follows
  state_of_part [] w v played closed f x = (λ low. sym (f x low), λ high. refl)
  state_of_part (e ∷ es) w v played closed f x =
      let rest : (w v : ℕ → X) → IsPlayed act w es → Follows version p w v → (x : ℕ) → Chosen w v es x = λ w v played f x. state_of_part es w v played closed.1 f x in
      elim (is_event e.event) as (λ b. is_event e.event ≡ b → Chosen w v (e ∷ es) x) [
        | true ↦ λ ev.
            let next : option_map (λ (r : Entry × (ℕ → X)). r.0) (act e w) ≡ Some e = rw ev at played.0 in
            let r = some_of_map (λ (r : Entry × (ℕ → X)). r.0) (act e w) e next in
            by_event e es rest w v ev r.0 r.1 r.2 played.1 closed.0 f x
        | false ↦ λ ev.
            let stays : after_entry act w e ≡ w = rw ev refl in
            let out : within p e ≡ false = rw ev refl in
            one e es w w v v x stays (skipped e es v x out) (rest w v (subst (λ (u : ℕ → X). IsPlayed act u es) stays played.1) f x)
            (λ at. (sym (f x (omega arith)), inl refl)) (λ low. omega arith) (λ high. (high, refl))
      ] refl

  -- the state of a closed part has each entity as it was at its chosen version
  pub part_state : (es : List Entry) (w : ℕ → X) → IsPlayed act w es → IsClosed p es → ((x : ℕ) → version (w x) ≤ p x) → (x : ℕ) → after act w (part_of p es) x ≡ thing_at act version w es x (p x)
  unfolding Follows
  part_state es w played closed low x = (state_of_part es w w played closed (λ x h. refl) x).0 (low x)
