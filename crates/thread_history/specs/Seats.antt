-- Seats at the chronicle's table.
use Rattle.std.specs.Prelude.{◌≡◌, ◌≢◌, ℕ, Bool, true, not, ◌&&◌, if◌then◌else◌, List, [], ◌∷◌, ◌++◌}
use mathlib.Core.List.{IsPrefix}
use Rattle.atomic_table.specs.declared.shared.Seat.{Seat}
use Rattle.atomic_table.specs.declared.owned.Table.{Table}
use Rattle.thread_history.specs.declared.views.View.{View}
use Rattle.thread_history.specs.declared.views.Role.TheVariants.{Chronicler, Share}
use Rattle.thread_history.specs.Rules.{concerning, is_among, told_of}

-- each number that the item concerns was told of it next
abbrev pub IsToldNext : {A : Type 0} → (A → ℕ → Bool) → A → View A → Type 0
IsToldNext concerns e v = (x : ℕ) → concerns e x ≡ true → IsPrefix (concerning concerns x v.since ++ e ∷ []) (told_of v.told x)

-- a seat of this table, which has three words
abbrev pub IsAt : {S V K R A : Type 0} → Table S V K R A → Seat S V → Type 0
IsAt table seat = (seat.table_id ≡ table.shared.table_id) × (table.shared.table_id.words ≡ 3)

-- a view of the chronicle that was told just what it appended
pub record IsChronicle {A : Type 0} (concerns : A → ℕ → Bool) (v : View A) : Type 0 where
  pub role : v.role ≡ Chronicler
  pub told : (x : ℕ) → told_of v.told x ≡ concerning concerns x v.since
  -- no share came back
  pub back : v.back ≡ []

-- a view of the share of x whose list is just what it knows of x
pub record IsShareOf {A : Type 0} (concerns : A → ℕ → Bool) (x : ℕ) (v : View A) : Type 0 where
  pub role : v.role ≡ Share x
  pub list : v.list ≡ concerning concerns x v.since

abbrev pub IsShare : {A : Type 0} → (A → ℕ → Bool) → View A → Type 0
IsShare concerns v = (x : ℕ) × IsShareOf concerns x v

-- the view of the share after it heard of the history es
pub record Heard {A : Type 0} (concerns : A → ℕ → Bool) (es : List A) (v w : View A) : Type 0 where
  pub role : w.role ≡ v.role
  pub since : w.since ≡ es
  pub list : w.list ≡ v.list
  pub whole : (x : ℕ) → IsShareOf concerns x v → IsShareOf concerns x w
  pub longer : IsPrefix v.since es

-- what the chronicle is to be told of x before it appends e, where the shares of these numbers still have to tell it
abbrev pub next_of : {A : Type 0} → (A → ℕ → Bool) → A → List ℕ → ℕ → List A
next_of concerns e given x = if concerns e x && not (is_among x given) then e ∷ [] else []

-- a view of the chronicle that was told e by all but these
pub record IsReady {A : Type 0} (concerns : A → ℕ → Bool) (e : A) (given : List ℕ) (v : View A) : Type 0 where
  pub role : v.role ≡ Chronicler
  pub told : (x : ℕ) → told_of v.told x ≡ concerning concerns x v.since ++ next_of concerns e given x
  pub back : v.back ≡ []

-- the share of x announced e, and the chronicle was told so
pub record Announced {A : Type 0} (concerns : A → ℕ → Bool) (x : ℕ) (e : A) (c s d t : View A) : Type 0 where
  pub chronicle_role : d.role ≡ c.role
  pub chronicle_since : d.since ≡ c.since
  pub chronicle_back : d.back ≡ c.back
  pub told : (y : ℕ) → y ≢ x → told_of d.told y ≡ told_of c.told y
  pub told_next : told_of d.told x ≡ concerning concerns x c.since ++ e ∷ []
  pub role : t.role ≡ s.role
  pub since : t.since ≡ s.since
  pub list : t.list ≡ s.list ++ e ∷ []
