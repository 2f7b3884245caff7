-- Histories that are played by local events, and parts of them.
use Rattle.std.specs.Prelude.{◌≡◌, ℕ, Bool, true, false, not, ◌&&◌, ◌||◌, ◌==◌, nat_le, if◌then◌else◌, MatchBool, List, [], ◌∷◌, filter, Option, Some, None, option_map}
use Rattle.std.specs.List.{list_any, list_all}
use Rattle.base_types.specs.declared.histories.Touch.{Touch}
use Rattle.base_types.specs.declared.histories.Entry.{Entry}
use Rattle.base_types.specs.declared.histories.Event.{Event}
use Rattle.base_types.specs.declared.histories.Event.TheVariants.{Birth, Step, Snap, Stable, Tried}

-- births and steps change states, the others are marks in the history
abbrev pub is_event : Event → Bool
is_event Birth = true
is_event Step = true
is_event Snap = false
is_event Stable = false
is_event Tried = false

-- all that is written is within p
abbrev pub writes_within : (ℕ → ℕ) → List Touch → Bool
writes_within p ts = list_all (λ t. not t.wrote || nat_le t.version (p t.entity)) ts

-- all that is touched is
abbrev pub all_within : (ℕ → ℕ) → List Touch → Bool
all_within p ts = list_all (λ t. nat_le t.version (p t.entity)) ts

-- something that is written is
abbrev pub some_within : (ℕ → ℕ) → List Touch → Bool
some_within p ts = list_any (λ t. t.wrote && nat_le t.version (p t.entity)) ts

-- the entry is an event within the part
abbrev pub within : (ℕ → ℕ) → Entry → Bool
within p e = is_event e.event && writes_within p e.touched

-- the part is closed
abbrev pub IsClosed : (ℕ → ℕ) → List Entry → Type 0
IsClosed p [] = Unit {0}
IsClosed p (e ∷ es) = (some_within p e.touched ≡ true → all_within p e.touched ≡ true) × IsClosed p es

-- the events of a history that are within the part
abbrev pub part_of : (ℕ → ℕ) → List Entry → List Entry
part_of p es = filter (within p) es

module _ {X : Type 0} (act : Entry → (ℕ → X) → Option (Entry × (ℕ → X))) where
  abbrev pub next_of : (ℕ → X) → Option (Entry × (ℕ → X)) → ℕ → X
  next_of w None = w
  next_of w (Some r) = r.1

  -- the state after an entry
  abbrev pub after_entry : (ℕ → X) → Entry → ℕ → X
  after_entry w e = if is_event e.event then next_of w (act e w) else w

  -- the state after a history
  abbrev pub after : (ℕ → X) → List Entry → ℕ → X
  after w [] = w
  after w (e ∷ es) = after (after_entry w e) es

  -- the entry is the event's own, or touches nothing
  abbrev pub IsNext : (ℕ → X) → Entry → Type 0
  IsNext w e = MatchBool (is_event e.event) (option_map (λ r. r.0) (act e w) ≡ Some e) (e.touched ≡ [])

  -- each entry is
  abbrev pub IsPlayed : (ℕ → X) → List Entry → Type 0
  IsPlayed w [] = Unit {0}
  IsPlayed w (e ∷ es) = IsNext w e × IsPlayed (after_entry w e) es

-- what x is at the first place of the history where it has the version n
abbrev pub thing_at : {X : Type 0} → (Entry → (ℕ → X) → Option (Entry × (ℕ → X))) → (X → ℕ) → (ℕ → X) → List Entry → ℕ → ℕ → X
thing_at act version w [] x n = w x
thing_at act version w (e ∷ es) x n = if version (w x) == n then w x else thing_at act version (after_entry act w e) es x n
