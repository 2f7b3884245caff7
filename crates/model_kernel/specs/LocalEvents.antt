-- Events that touch only a few entities, over any kind of state, and their replay within a part.
use Rattle.std.specs.Prelude.{◌≡◌, ℕ, ◌+◌, true, false, ◌==◌, if◌then◌else◌, List, [], ◌∷◌, Option, Some, None}
use Rattle.std.specs.List.{list_any}
use Rattle.base_types.specs.declared.histories.Touch.{Touch}
use Rattle.base_types.specs.declared.histories.Entry.{Entry}

-- what an entry says of x
abbrev pub touch_at : List Touch → ℕ → Option Touch
touch_at [] x = None
touch_at (t ∷ ts) x = if t.entity == x then Some t else touch_at ts x

-- the two agree in each touched entity
abbrev pub Agrees : {X : Type 0} → (ℕ → X) → (ℕ → X) → List Touch → Type 0
Agrees w v ts = (x : ℕ) (t : Touch) → touch_at ts x ≡ Some t → w x ≡ v x

-- An event that reads and writes the entities that its entry names, and no other.
pub record IsLocal {X : Type 0} (version : X → ℕ) (act : (ℕ → X) → Option (Entry × (ℕ → X))) : Type 0 where
  -- on states that agree in what it touches it gives the same entry, and leaves the touched entities the same
  pub same : (w v : ℕ → X) (r : Entry × (ℕ → X)) → act w ≡ Some r → Agrees w v r.0.touched
      → (q : ℕ → X) × (act v ≡ Some (r.0, q)) × Agrees r.1 q r.0.touched
  -- all others stay
  pub stays : (w : ℕ → X) (r : Entry × (ℕ → X)) → act w ≡ Some r → (x : ℕ) → touch_at r.0.touched x ≡ None → r.1 x ≡ w x
  -- what it reads stays, with its version
  pub reads : (w : ℕ → X) (r : Entry × (ℕ → X)) → act w ≡ Some r → (x : ℕ) (t : Touch) → touch_at r.0.touched x ≡ Some t → t.wrote ≡ false
      → (r.1 x ≡ w x) × (version (w x) ≡ t.version)
  -- what it writes has the next version
  pub writes : (w : ℕ → X) (r : Entry × (ℕ → X)) → act w ≡ Some r → (x : ℕ) (t : Touch) → touch_at r.0.touched x ≡ Some t → t.wrote ≡ true
      → (version (r.1 x) ≡ t.version) × (version (w x) + 1 ≡ t.version)
  -- it writes something
  pub moves : (w : ℕ → X) (r : Entry × (ℕ → X)) → act w ≡ Some r → list_any (λ t. t.wrote) r.0.touched ≡ true
