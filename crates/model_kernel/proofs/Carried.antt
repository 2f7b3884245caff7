-- What a change carries over depends on the touched entities alone.
use Rattle.std.proofs.Common.{◌≡◌, ℕ, ◌+◌, ◌≤◌, ◌<◌, Bool, true, false, ◌||◌, if◌then◌else◌, ◌==◌, nat_lt, List, [], ◌∷◌, Option, Some, None, option_map, is_some, eq-eqb, eqb-true, refl, sym, ap, subst, ◌∙◌, arith, max}
use Rattle.std.specs.List.{list_any}
use Rattle.base_types.specs.declared.histories.Touch.{Touch}
use Rattle.base_types.specs.declared.histories.Entry.{Entry}
use Rattle.base_types.specs.declared.histories.Event.{Event}
use Rattle.model_kernel.specs.State.{EntityState, KernelState, Cell}
use Rattle.model_kernel.specs.Changes.{Access, Change, merged, insert_access, ordered, touch_of, touches_of, joined, access_at, written, accessed, changed, carried, entry_of, acts}
use Rattle.model_kernel.specs.LocalEvents.{touch_at, Agrees, IsLocal}
use Rattle.base_types.specs.Touches.{AllTouches, IsRising}
use Rattle.model_kernel.specs.Vectors.{IsStamped}
use Rattle.model_kernel.proofs.Basics.{none_of_map, some_of_map}
use Rattle.std.proofs.lemmas.Bool.{ltb-true}
use Rattle.std.proofs.lemmas.Bool.Decides.{nat_tests}

-- the entry names x as the accesses do
pub touch_at-touches_of : (w : KernelState) (accesses : List Access) (x : ℕ) → touch_at (touches_of w accesses) x ≡ option_map (touch_of w) (access_at accesses x)
touch_at-touches_of w [] x = refl
touch_at-touches_of w (m ∷ accesses) x =
    elim (m.entity == x) as (λ b. (if b then Some (touch_of w m) else touch_at (touches_of w accesses) x) ≡ option_map (touch_of w) (if b then Some m else access_at accesses x)) [
      | true ↦ refl
      | false ↦ touch_at-touches_of w accesses x
    ]

-- agreement by recursion on the accesses
abbrev pub AgreeAccesses : KernelState → KernelState → List Access → Type 0
AgreeAccesses w v [] = Unit {0}
AgreeAccesses w v (m ∷ accesses) = (w m.entity ≡ v m.entity) × AgreeAccesses w v accesses

eqb_same : (x : ℕ) → (x == x) ≡ true
eqb_same x = eq-eqb x x refl

-- states that agree in the touched entities agree in the accesses
pub agree_accesses : (w v : KernelState) (accesses : List Access) → Agrees w v (touches_of w accesses) → AgreeAccesses w v accesses
agree_accesses w v [] h = tt
agree_accesses w v (m ∷ accesses) h =
    (h m.entity (touch_of w m) (rw eqb_same refl), agree_accesses w v accesses (λ x t e. later x t e (m.entity == x) refl))
  where
    later : (x : ℕ) (t : Touch) → touch_at (touches_of w accesses) x ≡ Some t → (b : Bool) → (m.entity == x) ≡ b → w x ≡ v x
    later x t e true is = h x (touch_of w m) (rw is refl)
    later x t e false is = h x t (rw is e)

touch_of_same : (w v : KernelState) (m : Access) → w m.entity ≡ v m.entity → touch_of w m ≡ touch_of v m
touch_of_same w v m p = let f : EntityState → Touch = λ b. record { version = if is_some m.new then b.version + 1 else b.version; entity = m.entity; wrote = is_some m.new } in ap f p

-- then the entries carry the same versions
pub touches_of_same : (w v : KernelState) (accesses : List Access) → AgreeAccesses w v accesses → touches_of w accesses ≡ touches_of v accesses
touches_of_same w v [] h = refl
touches_of_same w v (m ∷ accesses) h = λ i. touch_of_same w v m h.0 i ∷ touches_of_same w v accesses h.1 i

joined_by : (w v : KernelState) (accesses : List Access) (u : KernelState) → AgreeAccesses w v accesses → (y : ℕ) → joined w (touches_of u accesses) y ≡ joined v (touches_of u accesses) y
joined_by w v [] u h y = refl
joined_by w v (m ∷ accesses) u h y =
    λ i. max (max ((h.0 i).stamp y) (if m.entity == y then (touch_of u m).version else 0)) (joined_by w v accesses u h.1 y i)

-- and the joined clocks are the same
pub joined_same : (w v : KernelState) (accesses : List Access) → AgreeAccesses w v accesses → joined w (touches_of w accesses) ≡ joined v (touches_of v accesses)
joined_same w v accesses h = let here : joined w (touches_of w accesses) ≡ joined v (touches_of w accesses) = λ i y. joined_by w v accesses w h y i in
    here ∙ ap (joined v) (touches_of_same w v accesses h)

-- so an entity that was the same is the same afterwards
pub changed_at : (w v : KernelState) (accesses : List Access) → AgreeAccesses w v accesses → (x : ℕ) → w x ≡ v x → changed w accesses x ≡ changed v accesses x
unfolding changed
changed_at w v accesses h x p = λ i. accessed (p i) (joined_same w v accesses h i) (access_at accesses x)

-- a touch comes of a mark on the same entity
pub access_of_touch : (w : KernelState) (accesses : List Access) (x : ℕ) (t : Touch) → touch_at (touches_of w accesses) x ≡ Some t → (m : Access) × (access_at accesses x ≡ Some m) × (touch_of w m ≡ t)
access_of_touch w accesses x t e = some_of_map (touch_of w) (access_at accesses x) t (sym (touch_at-touches_of w accesses x) ∙ e)

access_at_entity : (accesses : List Access) (x : ℕ) (m : Access) → access_at accesses x ≡ Some m → m.entity ≡ x
access_at_entity [] x m e = cc
access_at_entity (n ∷ accesses) x m e =
    elim (n.entity == x) as (λ b. (n.entity == x) ≡ b → (if b then Some n else access_at accesses x) ≡ Some m → m.entity ≡ x) [
      | true ↦ λ is h. let same : n ≡ m = cc in ap (λ k. k.entity) (sym same) ∙ eqb-true n.entity x is
      | false ↦ λ is h. access_at_entity accesses x m h
    ] refl e

-- what is not touched stays
pub changed-stays : (w : KernelState) (accesses : List Access) (x : ℕ) → touch_at (touches_of w accesses) x ≡ None → changed w accesses x ≡ w x
unfolding changed
changed-stays w accesses x e = ap (accessed (w x) (joined w (touches_of w accesses))) (none_of_map (touch_of w) (access_at accesses x) (sym (touch_at-touches_of w accesses x) ∙ e))

-- at a mark with this new cell, the touch and the entity afterwards
read_access : (w : KernelState) (x : ℕ) (stamp : ℕ → ℕ) (m : Access) (o : Option Cell) → m.new ≡ o → m.entity ≡ x → (touch_of w m).wrote ≡ false
    → (written (w x) stamp m.new ≡ w x) × ((w x).version ≡ (touch_of w m).version)
read_access w x stamp m None is at e = (ap (written (w x) stamp) is, rw (is, at) refl)
read_access w x stamp m (Some c) is at e = let bad : true ≡ false = rw is at e in cc

write_access : (w : KernelState) (x : ℕ) (stamp : ℕ → ℕ) (m : Access) (o : Option Cell) → m.new ≡ o → m.entity ≡ x → (touch_of w m).wrote ≡ true
    → ((written (w x) stamp m.new).version ≡ (touch_of w m).version) × ((w x).version + 1 ≡ (touch_of w m).version)
write_access w x stamp m (Some c) is at e = (rw (is, at) refl, rw (is, at) refl)
write_access w x stamp m None is at e = let bad : false ≡ true = rw is at e in cc

-- what is read stays, with its version
pub changed-reads : (w : KernelState) (accesses : List Access) (x : ℕ) (t : Touch) → touch_at (touches_of w accesses) x ≡ Some t → t.wrote ≡ false
    → (changed w accesses x ≡ w x) × ((w x).version ≡ t.version)
unfolding changed
changed-reads w accesses x t e r =
    let f = access_of_touch w accesses x t e in
    let stamp = joined w (touches_of w accesses) in
    let q = read_access w x stamp f.0 f.0.new refl (access_at_entity accesses x f.0 f.1) (ap (λ k. k.wrote) f.2 ∙ r) in
    (ap (accessed (w x) stamp) f.1 ∙ q.0, q.1 ∙ ap (λ k. k.version) f.2)

-- what is written has the next version
pub changed-writes : (w : KernelState) (accesses : List Access) (x : ℕ) (t : Touch) → touch_at (touches_of w accesses) x ≡ Some t → t.wrote ≡ true
    → ((changed w accesses x).version ≡ t.version) × ((w x).version + 1 ≡ t.version)
unfolding changed
changed-writes w accesses x t e r =
    let f = access_of_touch w accesses x t e in
    let stamp = joined w (touches_of w accesses) in
    let q = write_access w x stamp f.0 f.0.new refl (access_at_entity accesses x f.0 f.1) (ap (λ k. k.wrote) f.2 ∙ r) in
    (ap (λ b. b.version) (ap (accessed (w x) stamp) f.1) ∙ q.0 ∙ ap (λ k. k.version) f.2, q.1 ∙ ap (λ k. k.version) f.2)

-- A CHANGE THAT IS MADE OF WHAT IT TOUCHES IS LOCAL

-- on a state that agrees in what it touches, the same change is made
abbrev pub IsOfTouched : (KernelState → Option (ℕ × Change)) → Type 0
IsOfTouched f = (w v : KernelState) (c : ℕ × Change) → f w ≡ Some c → AgreeAccesses w v c.1.accesses → f v ≡ Some c

-- an access that writes
abbrev pub some_write : List Access → Bool
some_write [] = false
some_write (m ∷ accesses) = is_some m.new || some_write accesses

-- it shows in the entry
pub any_touch : (w : KernelState) (accesses : List Access) → some_write accesses ≡ true → list_any (λ t. t.wrote) (touches_of w accesses) ≡ true
any_touch w [] h = h
any_touch w (m ∷ accesses) h = elim (is_some m.new) as (λ b. (b || some_write accesses) ≡ true → (b || list_any (λ t. t.wrote) (touches_of w accesses)) ≡ true) [ true ↦ λ _. refl | false ↦ any_touch w accesses ] h

-- some entity is written
abbrev pub Writes : (KernelState → Option (ℕ × Change)) → Type 0
Writes f = (w : KernelState) (c : ℕ × Change) → f w ≡ Some c → some_write c.1.accesses ≡ true

-- ORDERED MARKS

module _ (w v : KernelState) where
  inserted : (m : Access) (accesses : List Access) → AgreeAccesses w v (insert_access m accesses) → (w m.entity ≡ v m.entity) × AgreeAccesses w v accesses
  inserted m [] h = (h.0, tt)
  inserted m (n ∷ accesses) h =
      elim (nat_lt m.entity n.entity) as (λ b. AgreeAccesses w v (if b then m ∷ n ∷ accesses else if m.entity == n.entity then merged m n ∷ accesses else n ∷ insert_access m accesses) → (w m.entity ≡ v m.entity) × ((w n.entity ≡ v n.entity) × AgreeAccesses w v accesses)) [
        | true ↦ λ h. (h.0, h.1)
        | false ↦ elim (m.entity == n.entity) as (λ b. (m.entity == n.entity) ≡ b → AgreeAccesses w v (if b then merged m n ∷ accesses else n ∷ insert_access m accesses) → (w m.entity ≡ v m.entity) × ((w n.entity ≡ v n.entity) × AgreeAccesses w v accesses)) [
          | true ↦ λ is h.
              let same : m.entity ≡ n.entity = eqb-true _ _ is in
              elim (is_some n.new) as (λ b. (w (if b then n else m).entity ≡ v (if b then n else m).entity) → (w m.entity ≡ v m.entity) × ((w n.entity ≡ v n.entity) × AgreeAccesses w v accesses)) [
                | true ↦ λ q. (subst (λ x. w x ≡ v x) (sym same) q, (q, h.1))
                | false ↦ λ q. (q, (subst (λ x. w x ≡ v x) same q, h.1))
              ] h.0
          | false ↦ λ is h. let r = inserted m accesses h.1 in (r.0, (h.0, r.1))
        ] refl
      ] h

  -- states that agree in the ordered accesses agree in all
  pub agree_ordered : (accesses : List Access) → AgreeAccesses w v (ordered accesses) → AgreeAccesses w v accesses
  agree_ordered [] h = tt
  agree_ordered (m ∷ accesses) h = let r = inserted m (ordered accesses) h in (r.0, agree_ordered accesses r.1)

or_more : (a b c : Bool) → (b ≡ true → c ≡ true) → (a || b) ≡ true → (a || c) ≡ true
or_more true b c f h = refl
or_more false b c f h = f h

merged_writes : (m n : Access) (s : Bool) → (is_some m.new || (is_some n.new || s)) ≡ true → (is_some (merged m n).new || s) ≡ true
merged_writes m n s h =
    elim (is_some n.new) as (λ b. is_some n.new ≡ b → (is_some m.new || (b || s)) ≡ true → (is_some (if◌then◌else◌ {A = Access} b n m).new || s) ≡ true) [
      | true ↦ λ is h. rw is refl
      | false ↦ λ is h. h
    ] refl h

inserted_writes : (m : Access) (accesses : List Access) → (is_some m.new || some_write accesses) ≡ true → some_write (insert_access m accesses) ≡ true
inserted_writes m [] h = h
inserted_writes m (n ∷ accesses) h =
    elim (nat_lt m.entity n.entity) as (λ b. some_write (if b then m ∷ n ∷ accesses else if m.entity == n.entity then merged m n ∷ accesses else n ∷ insert_access m accesses) ≡ true) [
      | true ↦ h
      | false ↦ elim (m.entity == n.entity) as (λ b. some_write (if b then merged m n ∷ accesses else n ∷ insert_access m accesses) ≡ true) [
        | true ↦ merged_writes m n (some_write accesses) h
        | false ↦ later (is_some n.new) (is_some m.new) (some_write accesses) _ h (inserted_writes m accesses)
      ]
    ]
  where
    later : (a b c d : Bool) → (b || (a || c)) ≡ true → ((b || c) ≡ true → d ≡ true) → (a || d) ≡ true
    later true b c d h f = refl
    later false b c d h f = f h

-- ordering loses no write
pub ordered_writes : (accesses : List Access) → some_write accesses ≡ true → some_write (ordered accesses) ≡ true
ordered_writes [] h = h
ordered_writes (m ∷ accesses) h = inserted_writes m (ordered accesses) (or_more (is_some m.new) _ _ (ordered_writes accesses) h)

module _ (event : Event) (f : KernelState → Option (ℕ × Change)) (of : IsOfTouched f) (moves : Writes f) where
  acts-same : (w v : KernelState) (c : ℕ × Change) → f w ≡ Some c → Agrees w v (touches_of w (ordered c.1.accesses))
      → (q : KernelState) × (acts event f v ≡ Some (entry_of w event c.0 (ordered c.1.accesses) c.1.answer, q)) × Agrees (changed w (ordered c.1.accesses)) q (touches_of w (ordered c.1.accesses))
  acts-same w v c is agree =
      let accesses = ordered c.1.accesses in
      let alike = agree_accesses w v accesses agree in
      let entry : entry_of v event c.0 accesses c.1.answer ≡ entry_of w event c.0 accesses c.1.answer = λ i. record { event = event; actor = c.0; touched = sym (touches_of_same w v accesses alike) i; version = 0; answer = c.1.answer } in (
        changed v accesses,
        rw (of w v c is (agree_ordered w v c.1.accesses alike)) (λ i. Some (entry i, changed v accesses)),
        λ x t e. changed_at w v accesses alike x (agree x t e),
      )

  -- what is known of an event's result
  made : (w : KernelState) (r : Entry × KernelState) → acts event f w ≡ Some r → (c : ℕ × Change) × (f w ≡ Some c) × (carried w event c.0 c.1 ≡ r)
  made w r is = some_of_map (λ (c : ℕ × Change). carried w event c.0 c.1) (f w) r is

  -- an event whose change depends on what it touches is local
  pub acts_local : IsLocal (λ b. b.version) (acts event f)
  acts_local = record {
    same = λ w v r is agree.
        let g = made w r is in
        subst (λ (r : Entry × KernelState). Agrees w v r.0.touched → (q : KernelState) × (acts event f v ≡ Some (r.0, q)) × Agrees r.1 q r.0.touched) g.2 (acts-same w v g.0 g.1) agree;
    stays = λ w r is x.
        let g = made w r is in
        subst (λ (r : Entry × KernelState). touch_at r.0.touched x ≡ None → r.1 x ≡ w x) g.2 (changed-stays w (ordered g.0.1.accesses) x);
    reads = λ w r is x t.
        let g = made w r is in
        subst (λ (r : Entry × KernelState). touch_at r.0.touched x ≡ Some t → t.wrote ≡ false → (r.1 x ≡ w x) × ((w x).version ≡ t.version)) g.2 (changed-reads w (ordered g.0.1.accesses) x t);
    writes = λ w r is x t.
        let g = made w r is in
        subst (λ (r : Entry × KernelState). touch_at r.0.touched x ≡ Some t → t.wrote ≡ true → ((r.1 x).version ≡ t.version) × ((w x).version + 1 ≡ t.version)) g.2 (changed-writes w (ordered g.0.1.accesses) x t);
    moves = λ w r is.
        let g = made w r is in
        subst (λ (r : Entry × KernelState). list_any (λ t. t.wrote) r.0.touched ≡ true) g.2 (any_touch w (ordered g.0.1.accesses) (ordered_writes g.0.1.accesses (moves w g.0 g.1)));
  }

-- ASCENDING

above_all : (w : KernelState) (k : ℕ) → List Access → Type 0
above_all w k accesses = AllTouches (λ u. k < u.entity) (touches_of w accesses)

inserted_above : (w : KernelState) (k : ℕ) (m : Access) (accesses : List Access) → k < m.entity → above_all w k accesses → above_all w k (insert_access m accesses)
unfolding above_all
inserted_above w k m [] lt h = (lt, tt)
inserted_above w k m (n ∷ accesses) lt h =
    elim (nat_lt m.entity n.entity) as (λ b. above_all w k (if b then m ∷ n ∷ accesses else if m.entity == n.entity then merged m n ∷ accesses else n ∷ insert_access m accesses)) [
      | true ↦ (lt, h)
      | false ↦ elim (m.entity == n.entity) as (λ b. above_all w k (if b then merged m n ∷ accesses else n ∷ insert_access m accesses)) [
        | true ↦ (elim (is_some n.new) as (λ b. k < (if◌then◌else◌ {A = Access} b n m).entity) [ true ↦ h.0 | false ↦ lt ], h.1)
        | false ↦ (h.0, inserted_above w k m accesses lt h.1)
      ]
    ]

lower_above : (w : KernelState) (j k : ℕ) (accesses : List Access) → j < k → above_all w k accesses → above_all w j accesses
unfolding above_all
lower_above w j k [] lt h = tt
lower_above w j k (m ∷ accesses) lt h = (omega arith, lower_above w j k accesses lt h.1)

inserted_rising : (w : KernelState) (m : Access) (accesses : List Access) → IsRising (touches_of w accesses) → IsRising (touches_of w (insert_access m accesses))
unfolding above_all
inserted_rising w m [] h = (tt, tt)
inserted_rising w m (n ∷ accesses) h =
    elim (nat_lt m.entity n.entity) as (λ b. nat_lt m.entity n.entity ≡ b → IsRising (touches_of w (if b then m ∷ n ∷ accesses else if m.entity == n.entity then merged m n ∷ accesses else n ∷ insert_access m accesses))) [
      | true ↦ λ is. let lt : m.entity < n.entity = ltb-true _ _ is in ((lt, lower_above w m.entity n.entity accesses lt h.0), h)
      | false ↦ λ is. elim (m.entity == n.entity) as (λ b. (m.entity == n.entity) ≡ b → IsRising (touches_of w (if b then merged m n ∷ accesses else n ∷ insert_access m accesses))) [
        | true ↦ λ same. let e : m.entity ≡ n.entity = eqb-true _ _ same in
            elim (is_some n.new) as (λ b. IsRising (touches_of w (if◌then◌else◌ {A = Access} b n m ∷ accesses))) [ true ↦ h | false ↦ (subst (λ k. above_all w k accesses) (sym e) h.0, h.1) ]
        | false ↦ λ other. (inserted_above w n.entity m accesses (greater m.entity n.entity is other) h.0, inserted_rising w m accesses h.1)
      ] refl
    ] refl
  where
    greater : (a b : ℕ) → nat_lt a b ≡ false → (a == b) ≡ false → b < a
    greater a b p q = grind (arith, nat_tests)

-- ordered accesses ascend
pub ordered_rising : (w : KernelState) (accesses : List Access) → IsRising (touches_of w (ordered accesses))
ordered_rising w [] = tt
ordered_rising w (m ∷ accesses) = inserted_rising w m (ordered accesses) (ordered_rising w accesses)

carried_versions : (w : KernelState) (accesses : List Access) → AllTouches (λ t. (w t.entity).version ≤ t.version) (touches_of w accesses)
carried_versions w [] = tt
carried_versions w (m ∷ accesses) = (elim (is_some m.new) as (λ b. (w m.entity).version ≤ (if b then (w m.entity).version + 1 else (w m.entity).version)) [ true ↦ omega arith | false ↦ omega arith ], carried_versions w accesses)

-- what is written has the joined stamp
written_stamp : (w : KernelState) (x : ℕ) (stamp : ℕ → ℕ) (m : Access) (o : Option Cell) → m.new ≡ o → (touch_of w m).wrote ≡ true → (written (w x) stamp m.new).stamp ≡ stamp
written_stamp w x stamp m (Some c) is e = rw is refl
written_stamp w x stamp m None is e = let bad : false ≡ true = rw is at e in cc

changed-joins : (w : KernelState) (accesses : List Access) (x : ℕ) (t : Touch) → touch_at (touches_of w accesses) x ≡ Some t → t.wrote ≡ true → (y : ℕ) → (changed w accesses x).stamp y ≡ joined w (touches_of w accesses) y
unfolding changed
changed-joins w accesses x t e r y =
    let f = access_of_touch w accesses x t e in
    let stamp = joined w (touches_of w accesses) in
    ap (λ (b : EntityState). b.stamp y) (ap (accessed (w x) stamp) f.1) ∙ ap (λ (s : ℕ → ℕ). s y) (written_stamp w x stamp f.0 f.0.new refl (ap (λ k. k.wrote) f.2 ∙ r))

-- each event joins the clocks
pub acts_stamped : (event : Event) (f : KernelState → Option (ℕ × Change)) → IsStamped (acts event f)
acts_stamped event f = record {
  rising = λ w r is.
      let g = some_of_map (λ (c : ℕ × Change). carried w event c.0 c.1) (f w) r is in
      subst (λ (r : Entry × KernelState). IsRising r.0.touched) g.2 (ordered_rising w g.0.1.accesses);
  carries = λ w r is.
      let g = some_of_map (λ (c : ℕ × Change). carried w event c.0 c.1) (f w) r is in
      subst (λ (r : Entry × KernelState). AllTouches (λ t. (w t.entity).version ≤ t.version) r.0.touched) g.2 (carried_versions w (ordered g.0.1.accesses));
  joins = λ w r is x t.
      let g = some_of_map (λ (c : ℕ × Change). carried w event c.0 c.1) (f w) r is in
      subst (λ (r : Entry × KernelState). touch_at r.0.touched x ≡ Some t → t.wrote ≡ true → (y : ℕ) → (r.1 x).stamp y ≡ joined w r.0.touched y) g.2 (changed-joins w (ordered g.0.1.accesses) x t);
}
