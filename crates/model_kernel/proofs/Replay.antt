-- The replay law: of a history that local events play, the events within a closed part are again played.
use Rattle.std.proofs.Common.{◌≡◌, ℕ, ◌≤◌, Bool, true, false, not, ◌&&◌, ◌||◌, ◌==◌, nat_le, if◌then◌else◌, cond, List, [], ◌∷◌, Option, Some, None, option_map, refl, sym, ap, subst, ◌∙◌, arith, eqb-true}
use Rattle.std.specs.List.{list_any, list_all}
use Rattle.std.proofs.lemmas.Bool.{leb-true, le-leb}
use Rattle.base_types.specs.declared.histories.Touch.{Touch}
use Rattle.base_types.specs.declared.histories.Entry.{Entry}
use Rattle.model_kernel.specs.LocalEvents.{touch_at, Agrees, IsLocal}
use Rattle.model_kernel.specs.Parts.{is_event, writes_within, all_within, some_within, within, IsClosed, part_of, after_entry, after, IsNext, IsPlayed}
use Rattle.model_kernel.proofs.Basics.{some_of_map, and_left, and_right, both, or_left, or_right, not_false}

-- what holds of all touches holds of the one at x
pub all_at : (f : Touch → Bool) (ts : List Touch) (x : ℕ) (t : Touch) → list_all f ts ≡ true → touch_at ts x ≡ Some t → (f t ≡ true) × (t.entity ≡ x)
all_at f [] x t a e = cc
all_at f (u ∷ ts) x t a e =
    elim (u.entity == x) as (λ b. (u.entity == x) ≡ b → (if b then Some u else touch_at ts x) ≡ Some t → (f t ≡ true) × (t.entity ≡ x)) [
      | true ↦ λ is h. let same : u ≡ t = cc in subst (λ (t : Touch). (f t ≡ true) × (t.entity ≡ x)) same (and_left _ _ a, eqb-true u.entity x is)
      | false ↦ λ is h. all_at f ts x t (and_right _ _ a) h
    ] refl e

-- if the one at x passes, some does
pub any_at : (f : Touch → Bool) (ts : List Touch) (x : ℕ) (t : Touch) → touch_at ts x ≡ Some t → f t ≡ true → list_any f ts ≡ true
any_at f [] x t e h = cc
any_at f (u ∷ ts) x t e h =
    elim (u.entity == x) as (λ b. (if b then Some u else touch_at ts x) ≡ Some t → (f u || list_any f ts) ≡ true) [
      | true ↦ λ e. let same : u ≡ t = cc in or_left _ _ (ap f same ∙ h)
      | false ↦ λ e. or_right _ _ (any_at f ts x t e h)
    ] e

-- the touch at x is of x
pub at_entity : (ts : List Touch) (x : ℕ) (t : Touch) → touch_at ts x ≡ Some t → t.entity ≡ x
at_entity ts x t e = (all_at (λ _. true) ts x t (trivial ts) e).1
  where
    trivial : (ts : List Touch) → list_all (λ _. true) ts ≡ true
    trivial [] = refl
    trivial (t ∷ ts) = trivial ts

-- what is all within has its writes within
pub weaker : (p : ℕ → ℕ) (ts : List Touch) → all_within p ts ≡ true → writes_within p ts ≡ true
weaker p [] h = refl
weaker p (t ∷ ts) h = both _ _ (or_right (not t.wrote) _ (and_left _ _ h)) (weaker p ts (and_right _ _ h))

-- an event within a closed part has a write within, and so all that it touches
module _ {X : Type 0} (version : X → ℕ) (p : ℕ → ℕ) where
  -- the states agree where the version is still within the part
  unfoldable pub Follows : (w v : ℕ → X) → Type 0
  Follows w v = (x : ℕ) → version (w x) ≤ p x → w x ≡ v x

  module _ (act : (ℕ → X) → Option (Entry × (ℕ → X))) (local : IsLocal version act) where
    -- an entry all within
    agrees : (w v : ℕ → X) (r : Entry × (ℕ → X)) → act w ≡ Some r → all_within p r.0.touched ≡ true → Follows w v → Agrees w v r.0.touched
    unfolding Follows
    agrees w v r is all f x t e =
        let a = all_at (λ t. nat_le t.version (p t.entity)) r.0.touched x t all e in
        let below : t.version ≤ p x = subst (λ y. t.version ≤ p y) a.1 (leb-true _ _ a.0) in
        elim t.wrote as (λ b. t.wrote ≡ b → w x ≡ v x) [
          | true ↦ λ wrote. let q = (local.writes w r is x t e wrote).1 in f x (omega arith)
          | false ↦ λ read. let q = (local.reads w r is x t e read).1 in f x (omega arith)
        ] refl

    pub inside : (w v : ℕ → X) (r : Entry × (ℕ → X)) → act w ≡ Some r → all_within p r.0.touched ≡ true → Follows w v
        → (q : ℕ → X) × (act v ≡ Some (r.0, q)) × Follows r.1 q
    unfolding Follows
    inside w v r is all f =
        let s = local.same w v r is (agrees w v r is all f) in (
          s.0,
          s.1,
          λ x below.
              elim (touch_at r.0.touched x) as (λ o. touch_at r.0.touched x ≡ o → r.1 x ≡ s.0 x) [
                | None ↦ λ e. let a = local.stays w r is x e in let b = local.stays v (r.0, s.0) s.1 x e in
                    a ∙ f x (subst (λ (y : X). version y ≤ p x) a below) ∙ sym b
                | Some t ↦ λ e. s.2 x t e
              ] refl,
        )

    pub outside : (w v : ℕ → X) (r : Entry × (ℕ → X)) → act w ≡ Some r → some_within p r.0.touched ≡ false → Follows w v → Follows r.1 v
    unfolding Follows
    outside w v r is none f x below =
        elim (touch_at r.0.touched x) as (λ o. touch_at r.0.touched x ≡ o → r.1 x ≡ v x) [
          | None ↦ λ e. let a = local.stays w r is x e in a ∙ f x (subst (λ (y : X). version y ≤ p x) a below)
          | Some t ↦ λ e. elim t.wrote as (λ b. t.wrote ≡ b → r.1 x ≡ v x) [
            | true ↦ λ wrote.
                let a = (local.writes w r is x t e wrote).0 in
                let at : t.entity ≡ x = at_entity r.0.touched x t e in
                let low : t.version ≤ p t.entity = subst (λ y. t.version ≤ p y) (sym at) (omega arith) in
                let some = any_at (λ t. t.wrote && nat_le t.version (p t.entity)) r.0.touched x t e (both _ _ wrote (le-leb _ _ low)) in
                cc
            | false ↦ λ read. let a = (local.reads w r is x t e read).0 in a ∙ f x (subst (λ (y : X). version y ≤ p x) a below)
          ] refl
        ] refl

-- with a write and no write within, the writes are not all within
pub no_write_within : (p : ℕ → ℕ) (ts : List Touch) → list_any (λ t. t.wrote) ts ≡ true → writes_within p ts ≡ true → some_within p ts ≡ true
no_write_within p [] h a = h
no_write_within p (t ∷ ts) h a =
    elim t.wrote as (λ b. (b || list_any (λ t. t.wrote) ts) ≡ true → ((not b || nat_le t.version (p t.entity)) && writes_within p ts) ≡ true → (b && nat_le t.version (p t.entity) || some_within p ts) ≡ true) [
      | true ↦ λ h a. or_left (nat_le t.version (p t.entity)) (some_within p ts) (and_left (nat_le t.version (p t.entity)) (writes_within p ts) a)
      | false ↦ λ h a. no_write_within p ts h a
    ] h a

module _ {X : Type 0} (version : X → ℕ) (p : ℕ → ℕ) (act : Entry → (ℕ → X) → Option (Entry × (ℕ → X))) (local : (e : Entry) → IsLocal version (act e)) where
  -- what a history keeps, and the part of it that is played on the other side
  abbrev pub Replayed : (w v : ℕ → X) → List Entry → Type 0
  Replayed w v es = IsPlayed act v (part_of p es) × Follows version p (after act w es) (after act v (part_of p es))

  module _ (e : Entry) (es : List Entry) (rest : (w v : ℕ → X) → IsPlayed act w es → Follows version p w v → Replayed w v es) where
    -- an entry that is not within the part, and leaves w' from w
    skip : (w w' v : ℕ → X) → after_entry act w e ≡ w' → within p e ≡ false → IsPlayed act w' es → Follows version p w' v → Replayed w v (e ∷ es)
    skip w w' v next out played f =
        subst (λ (c : Bool). IsPlayed act v (cond c (e ∷ part_of p es) (part_of p es)) × Follows version p (after act (after_entry act w e) es) (after act v (cond c (e ∷ part_of p es) (part_of p es)))) (sym out)
        (subst (λ (u : ℕ → X). IsPlayed act v (part_of p es) × Follows version p (after act u es) (after act v (part_of p es))) (sym next) (rest w' v played f))

    -- one that is
    take : (w w' v q : ℕ → X) → after_entry act w e ≡ w' → within p e ≡ true → IsNext act v e → after_entry act v e ≡ q → IsPlayed act w' es → Follows version p w' q → Replayed w v (e ∷ es)
    take w w' v q next is_in is_next next_v played f =
        subst (λ (c : Bool). IsPlayed act v (cond c (e ∷ part_of p es) (part_of p es)) × Follows version p (after act (after_entry act w e) es) (after act v (cond c (e ∷ part_of p es) (part_of p es)))) (sym is_in)
        (let r = rest w' q played f in (
          (is_next, subst (λ (u : ℕ → X). IsPlayed act u (part_of p es)) (sym next_v) r.0),
          subst (λ (u : ℕ → X). Follows version p (after act u es) (after act (after_entry act v e) (part_of p es))) (sym next)
              (subst (λ (u : ℕ → X). Follows version p (after act w' es) (after act u (part_of p es))) (sym next_v) r.1),
        ))

    event : (w v : ℕ → X) → is_event e.event ≡ true → (r : Entry × (ℕ → X)) → act e w ≡ Some r → r.0 ≡ e → IsPlayed act (after_entry act w e) es
        → (some_within p e.touched ≡ true → all_within p e.touched ≡ true) → Follows version p w v → Replayed w v (e ∷ es)
    event w v ev r is same played closed f =
        let next : after_entry act w e ≡ r.1 = rw (ev, is) refl in
        let played' = subst (λ (u : ℕ → X). IsPlayed act u es) next played in
        let touched : r.0.touched ≡ e.touched = ap (λ (e : Entry). e.touched) same in
        elim (some_within p e.touched) as (λ b. some_within p e.touched ≡ b → Replayed w v (e ∷ es)) [
          | true ↦ λ some.
              let all = closed some in
              let q = inside version p (act e) (local e) w v r is (ap (all_within p) touched ∙ all) f in
              let acts : act e v ≡ Some (e, q.0) = subst (λ (k : Entry). act e v ≡ Some (k, q.0)) same q.1 in
              take w r.1 v q.0 next (both _ _ ev (weaker p e.touched all)) (rw (ev, acts) refl) (rw (ev, acts) refl) played' q.2
          | false ↦ λ none.
              let f' = outside version p (act e) (local e) w v r is (ap (some_within p) touched ∙ none) f in
              let moved : list_any (λ (t : Touch). t.wrote) e.touched ≡ true = ap (list_any (λ (t : Touch). t.wrote)) (sym touched) ∙ (local e).moves w r is in
              skip w r.1 v next (not_false (within p e) (λ h. let some : some_within p e.touched ≡ true = no_write_within p e.touched moved (and_right _ _ h) in cc)) played' f'
        ] refl

  -- the events within a closed part are played again
  pub replay_law : (es : List Entry) (w v : ℕ → X) → IsPlayed act w es → IsClosed p es → Follows version p w v → Replayed w v es
  replay_law [] w v played closed f = (tt, f)
  replay_law (e ∷ es) w v played closed f =
      let rest : (w v : ℕ → X) → IsPlayed act w es → Follows version p w v → Replayed w v es = λ w v played f. replay_law es w v played closed.1 f in
      elim (is_event e.event) as (λ b. is_event e.event ≡ b → Replayed w v (e ∷ es)) [
        | true ↦ λ ev.
            let next : option_map (λ (r : Entry × (ℕ → X)). r.0) (act e w) ≡ Some e = rw ev at played.0 in
            let r = some_of_map (λ (r : Entry × (ℕ → X)). r.0) (act e w) e next in
            event e es rest w v ev r.0 r.1 r.2 played.1 closed.0 f
        | false ↦ λ ev. skip e es rest w w v (rw ev refl) (rw ev refl) (subst (λ (u : ℕ → X). IsPlayed act u es) (rw ev refl) played.1) f
      ] refl
