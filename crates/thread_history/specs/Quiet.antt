-- What the rule says of the views, whatever the table is.
use Rattle.std.specs.Prelude.{◌≡◌, ◌+◌, ◌<◌, ◌≤◌, ◌⊎◌, ℕ, Bool, List, [], length, slice_index}
use mathlib.Core.Option.{some}
use mathlib.Core.List.{IsPrefix}
use lib.ListN.{get_elem?}
use Rattle.atomic_table.specs.Table.{State}
use Rattle.thread_history.specs.declared.views.View.{View}
use Rattle.thread_history.specs.declared.views.Role.TheVariants.{Chronicler, NoteOf, Share}
use Rattle.thread_history.specs.Rules.{IsKept, concerning, told_of}
use Rattle.thread_history.specs.Seats.{IsShareOf}

-- one view is the chronicle's, and no other
abbrev pub IsOneChronicle : {A : Type 0} → (A → ℕ → Bool) → Type 0
IsOneChronicle {A} concerns = (kept : List A) (s : State (Unit {0}) (View A)) → IsKept concerns kept s
    → (seat : ℕ) × (u : View A) × (get_elem? s.views seat ≡ some u) × (u.role ≡ Chronicler)
    × ((other : ℕ) (v : View A) → get_elem? s.views other ≡ some v → v.role ≡ Chronicler → other ≡ seat)

-- the chronicle's history has the length of the first word, and what each view knows begins it
abbrev pub AreKnown : {A : Type 0} → (A → ℕ → Bool) → Type 0
AreKnown {A} concerns = (kept : List A) (s : State (Unit {0}) (View A)) → IsKept concerns kept s
    → (other : ℕ) (u : View A) → get_elem? s.views other ≡ some u → u.role ≡ Chronicler
    → (slice_index s.words 0 ≡ length kept + length u.since) × ((seat : ℕ) (v : View A) → get_elem? s.views seat ≡ some v → IsPrefix v.since u.since)

-- what was appended and concerns x begins what the chronicle was told of x, which begins the list of the share of x, as do the lists of its notes
abbrev pub AreTold : {A : Type 0} → (A → ℕ → Bool) → Type 0
AreTold {A} concerns = (kept : List A) (s : State (Unit {0}) (View A)) → IsKept concerns kept s
    → (other : ℕ) (u : View A) → get_elem? s.views other ≡ some u → u.role ≡ Chronicler → (x : ℕ)
    → IsPrefix (concerning concerns x u.since) (told_of u.told x)
    × ((seat : ℕ) (v : View A) → get_elem? s.views seat ≡ some v → v.role ≡ Share x
    → IsPrefix (told_of u.told x) v.list × ((note : ℕ) (w : View A) → get_elem? s.views note ≡ some w → w.role ≡ NoteOf x → IsPrefix w.list v.list))

-- a number that was drawn has at most one share; of any other there is no share and no note of one, and the chronicle was told nothing
abbrev pub AreShares : {A : Type 0} → (A → ℕ → Bool) → Type 0
AreShares {A} concerns = (kept : List A) (s : State (Unit {0}) (View A)) → IsKept concerns kept s
    → ((x seat other : ℕ) (v u : View A) → get_elem? s.views seat ≡ some v → v.role ≡ Share x → get_elem? s.views other ≡ some u → u.role ≡ Share x → seat ≡ other)
    × ((x seat : ℕ) (v : View A) → get_elem? s.views seat ≡ some v → (v.role ≡ Share x) ⊎ (v.role ≡ NoteOf x) → x < slice_index s.words 2)
    × ((x seat : ℕ) (v : View A) → get_elem? s.views seat ≡ some v → v.role ≡ Chronicler → slice_index s.words 2 ≤ x → told_of v.told x ≡ [])

-- what a share knows whose list is just what it knows of its number begins the history, and no later item concerns it
abbrev pub IsQuiet : {A : Type 0} → (A → ℕ → Bool) → Type 0
IsQuiet {A} concerns = (kept : List A) (s : State (Unit {0}) (View A)) → IsKept concerns kept s
    → (x seat other : ℕ) (v u : View A) → get_elem? s.views seat ≡ some v → IsShareOf concerns x v → get_elem? s.views other ≡ some u → u.role ≡ Chronicler
    → IsPrefix v.since u.since × (concerning concerns x u.since ≡ concerning concerns x v.since)
