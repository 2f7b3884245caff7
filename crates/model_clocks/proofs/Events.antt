-- Steps and births look at cells and versions alone.
use Rattle.std.proofs.Common.{◌≡◌, ◌==◌, ℕ, ◌+◌, arith, is_some, max, if◌then◌else◌, List, [], ◌∷◌, Option, Some, None, option_map, refl, sym, ap, subst, ◌∙◌}
use Rattle.base_types.specs.declared.histories.Entry.{Entry}
use Rattle.base_types.specs.declared.histories.Event.{Event}
use Rattle.base_types.specs.declared.histories.Event.TheVariants.{Birth, Step}
use Rattle.base_types.specs.declared.histories.Touch.{Touch}
use Rattle.model_kernel.specs.Births.{next_birth, next_birth_change}
use Rattle.model_kernel.specs.Changes.{Access, Change, access_at, accessed, acts, carried, changed, joined, ordered, touches_of, written}
use Rattle.model_kernel.specs.LocalEvents.{Agrees, IsLocal}
use Rattle.model_kernel.specs.Scripts.{Script}
use Rattle.model_kernel.specs.State.{Cell, EntityState, KernelState, Supply}
use Rattle.model_kernel.specs.Steps.{change_of, step, step_change}
use Rattle.model_kernel.proofs.Basics.{some_of_map}
use Rattle.model_kernel.proofs.Locality.{next_birth_local, step_local}
use Rattle.model_clocks.specs.Alike.{AreAlike, IsAlikeAt, TouchesAlike}

-- a state of these cells
abbrev pub with_cells : (ℕ → Cell) → KernelState
with_cells cells = λ x. record { cell = cells x; version = 0; stamp = λ _. 0 }

pub step_change_same : (s : Supply) (me : ℕ) (w v : KernelState) → AreAlike w v → step_change s me w ≡ step_change s me v
unfolding step_change change_of
step_change_same s me w v alike = λ i. step_change s me (with_cells (λ x. (alike x).cell i))

pub birth_change_same : (s : Supply) (script : Script) (w v : KernelState) → AreAlike w v → next_birth_change s script w ≡ next_birth_change s script v
unfolding next_birth_change
birth_change_same s script w v alike = λ i. next_birth_change s script (with_cells (λ x. (alike x).cell i))

pub touches_same : (w v : KernelState) → AreAlike w v → (ms : List Access) → touches_of w ms ≡ touches_of v ms
touches_same w v alike [] = refl
touches_same w v alike (m ∷ ms) =
    λ i. record { version = if is_some m.new then (alike m.entity).version i + 1 else (alike m.entity).version i; entity = m.entity; wrote = is_some m.new } ∷ touches_same w v alike ms i

pub changed_alike : (w v : KernelState) → AreAlike w v → (ms : List Access) → AreAlike (changed w ms) (changed v ms)
unfolding changed
changed_alike w v alike ms x = by_access (access_at ms x)
  where
    by_new : (new : Option Cell) → ((written (w x) (joined w (touches_of w ms)) new).cell ≡ (written (v x) (joined v (touches_of v ms)) new).cell)
        × ((written (w x) (joined w (touches_of w ms)) new).version ≡ (written (v x) (joined v (touches_of v ms)) new).version)
    by_new None = ((alike x).cell, (alike x).version)
    by_new (Some c) = (refl, ap (λ n. n + 1) (alike x).version)

    by_option : (o : Option Access) → ((accessed (w x) (joined w (touches_of w ms)) o).cell ≡ (accessed (v x) (joined v (touches_of v ms)) o).cell)
        × ((accessed (w x) (joined w (touches_of w ms)) o).version ≡ (accessed (v x) (joined v (touches_of v ms)) o).version)
    by_option None = ((alike x).cell, (alike x).version)
    by_option (Some m) = by_new m.new

    by_access : (o : Option Access) → IsAlikeAt (λ y. accessed (w y) (joined w (touches_of w ms)) (access_at ms y)) (λ y. accessed (v y) (joined v (touches_of v ms)) (access_at ms y)) x
    by_access o = (let k = by_option (access_at ms x) in record { cell = k.0; version = k.1 })

-- CLOCKS THAT AGREE ABOVE A START

abbrev pub IsLikeStamp : (ℕ → ℕ) → (ℕ → ℕ) → (ℕ → ℕ) → Type 0
IsLikeStamp start f g = (y : ℕ) → max (f y) (start y) ≡ max (g y) (start y)

abbrev pub AreLikeStamps : (ℕ → ℕ) → KernelState → KernelState → Type 0
AreLikeStamps start w v = (x : ℕ) → IsLikeStamp start (w x).stamp (v x).stamp

more_like : (a b c j k m : ℕ) → max a m ≡ max b m → max j m ≡ max k m → max (max (max a c) j) m ≡ max (max (max b c) k) m
more_like a b c j k m p q = omega (arith, p, q)

joined_like : (start : ℕ → ℕ) (w v : KernelState) → AreLikeStamps start w v → (ts : List Touch) (y : ℕ) → max (joined w ts y) (start y) ≡ max (joined v ts y) (start y)
joined_like start w v like [] y = refl
joined_like start w v like (t ∷ ts) y =
    more_like ((w t.entity).stamp y) ((v t.entity).stamp y) (if t.entity == y then t.version else 0) (joined w ts y) (joined v ts y) (start y) (like t.entity y) (joined_like start w v like ts y)

changed_like : (start : ℕ → ℕ) (w v : KernelState) → AreAlike w v → AreLikeStamps start w v → (ms : List Access) → AreLikeStamps start (changed w ms) (changed v ms)
unfolding changed
changed_like start w v alike like ms x = by_option (access_at ms x)
  where
    whole : IsLikeStamp start (joined w (touches_of w ms)) (joined v (touches_of v ms))
    whole y = joined_like start w v like (touches_of w ms) y ∙ ap (λ ts. max (joined v ts y) (start y)) (touches_same w v alike ms)

    by_new : (new : Option Cell) → IsLikeStamp start (written (w x) (joined w (touches_of w ms)) new).stamp (written (v x) (joined v (touches_of v ms)) new).stamp
    by_new None = like x
    by_new (Some c) = whole

    by_option : (o : Option Access) → IsLikeStamp start (accessed (w x) (joined w (touches_of w ms)) o).stamp (accessed (v x) (joined v (touches_of v ms)) o).stamp
    by_option None = like x
    by_option (Some m) = by_new m.new

-- an event whose change is the same
pub acts_alike : (event : Event) (f : KernelState → Option (ℕ × Change)) (w v : KernelState) → AreAlike w v → f w ≡ f v → (r : Entry × KernelState) → acts event f w ≡ Some r
    → (q : KernelState) × (acts event f v ≡ Some (r.0, q)) × AreAlike r.1 q × ((start : ℕ → ℕ) → AreLikeStamps start w v → AreLikeStamps start r.1 q)
acts_alike event f w v alike same r is =
    let m = some_of_map (λ (c : ℕ × Change). carried w event c.0 c.1) (f w) r is in
    let c = m.0 in
    let ms = ordered c.1.accesses in
    let there : acts event f v ≡ Some (carried v event c.0 c.1) = ap (option_map (λ (c : ℕ × Change). carried v event c.0 c.1)) (sym same ∙ m.1) in
    let entry : (carried v event c.0 c.1).0 ≡ r.0 =
    (λ i. record { event = event; actor = c.0; touched = sym (touches_same w v alike ms) i; version = 0; answer = c.1.answer }) ∙ ap (λ (q : Entry × KernelState). q.0) m.2 in (
      changed v ms,
      there ∙ (λ i. Some (entry i, changed v ms)),
      subst (λ (q : KernelState). AreAlike q (changed v ms)) (ap (λ (q : Entry × KernelState). q.1) m.2) (changed_alike w v alike ms),
      λ start like. subst (λ (q : KernelState). AreLikeStamps start q (changed v ms)) (ap (λ (q : Entry × KernelState). q.1) m.2) (changed_like start w v alike like ms),
    )

-- WHERE ONLY WHAT IS TOUCHED AGREES

-- the cells and versions of the one, with the clocks of the other
abbrev pub clocked : KernelState → KernelState → KernelState
clocked v w = λ x. record { cell = (v x).cell; version = (v x).version; stamp = (w x).stamp }

touched_alike : (event : Event) (f : KernelState → Option (ℕ × Change)) → IsLocal (λ (b : EntityState). b.version) (acts event f) → ((w v : KernelState) → AreAlike w v → f w ≡ f v)
    → (w v : KernelState) (r : Entry × KernelState) → acts event f w ≡ Some r → TouchesAlike w v r.0.touched
    → (q : KernelState) × (acts event f v ≡ Some (r.0, q)) × TouchesAlike r.1 q r.0.touched
touched_alike event f local same w v r is alike =
    let u = clocked v w in
    let agrees : Agrees w u r.0.touched = λ x t at. (let k = alike x t at in λ i. record { cell = k.cell i; version = k.version i; stamp = (w x).stamp }) in
    let first = local.same w u r is agrees in
    let all : AreAlike u v = λ x. record { cell = refl; version = refl } in
    let second = acts_alike event f u v all (same u v all) (r.0, first.0) first.1 in (
      second.0,
      second.1,
      λ x t at. (let e = first.2 x t at in let k = second.2 x in record {
        cell = ap (λ (b : EntityState). b.cell) e ∙ k.cell;
        version = ap (λ (b : EntityState). b.version) e ∙ k.version;
      }),
    )

pub step_alike : (s : Supply) (l : ℕ) (w v : KernelState) (r : Entry × KernelState) → step s l w ≡ Some r → TouchesAlike w v r.0.touched → (q : KernelState) × (step s l v ≡ Some (r.0, q)) × TouchesAlike r.1 q r.0.touched
step_alike s l = touched_alike Step (step_change s l) (step_local s l) (step_change_same s l)

pub birth_alike : (s : Supply) (script : Script) (w v : KernelState) (r : Entry × KernelState) → next_birth s script w ≡ Some r → TouchesAlike w v r.0.touched → (q : KernelState) × (next_birth s script v ≡ Some (r.0, q)) × TouchesAlike r.1 q r.0.touched
birth_alike s script = touched_alike Birth (next_birth_change s script) (next_birth_local s script) (birth_change_same s script)
