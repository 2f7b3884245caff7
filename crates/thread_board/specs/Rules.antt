-- The rule of the board's table, and what each step tells.
use Rattle.std.specs.Prelude.{◌≡◌, ◌==◌, ℕ, zero, suc, ◌<◌, ◌≤◌, ◌^◌, Bool, false, List, [], ◌∷◌, ◌++◌, length, MatchBool, Option, Some}
use mathlib.Core.Option.{some}
use mathlib.Core.List.{IsPrefix}
use lib.ListN.{get_elem?}
use Rattle.atomic_table.specs.Table.{State, Me, Step}
use Rattle.thread_board.specs.declared.views.View.{View}
use Rattle.thread_board.specs.declared.views.PassItem.{PassItem}
use Rattle.thread_board.specs.declared.views.Role.{Role}
use Rattle.thread_board.specs.declared.views.Role.TheVariants.{Note, Commits, Items, Pass}
use Rattle.thread_board.specs.Lines.{StopsLast}
use Rattle.thread_history.specs.Rules.{longer, is_among, AllDiffer}

-- what the seat that draws a number is: the first writes commits, the second items, and each other is a pass
abbrev pub role_of : ℕ → Role
role_of zero = Commits
role_of (suc zero) = Items
role_of (suc (suc n)) = Pass (suc (suc n))

-- VIEWS
abbrev pub first_view : {C T : Type 0} → View C T
first_view = record { role = Note; commits = []; items = []; shown_commits = []; shown_items = []; back = [] }

-- a note has no number
abbrev pub note_of : {C T : Type 0} → View C T → View C T
note_of v = record { role = Note; commits = v.commits; items = v.items; shown_commits = []; shown_items = []; back = [] }

-- who writes a list keeps its own, which is the longest; each other takes the longer one. A pass knows no commits.
abbrev pub commits_with : {C : Type 0} → Role → List C → List C → List C
commits_with Note xs ys = longer xs ys
commits_with Commits xs ys = xs
commits_with Items xs ys = longer xs ys
commits_with (Pass n) xs ys = xs

abbrev pub items_with : {A : Type 0} → Role → List A → List A → List A
items_with Note xs ys = longer xs ys
items_with Commits xs ys = longer xs ys
items_with Items xs ys = xs
items_with (Pass n) xs ys = longer xs ys

-- the passes that came back to the seat that writes items, after a seat was taken in
abbrev pub back_with : Role → Role → List ℕ → List ℕ
back_with Items (Pass n) back = n ∷ back
back_with Items Note back = back
back_with Items Commits back = back
back_with Items Items back = back
back_with Note r back = back
back_with Commits r back = back
back_with (Pass m) r back = back

abbrev pub with_note : {C T : Type 0} → View C T → View C T → View C T
with_note v w = record {
  role = v.role;
  commits = commits_with v.role v.commits w.commits;
  items = items_with v.role v.items w.items;
  shown_commits = w.commits;
  shown_items = w.items;
  back = back_with v.role w.role v.back;
}

abbrev pub commits_drawn : {C : Type 0} → ℕ → List C → List C
commits_drawn zero cs = cs
commits_drawn (suc zero) cs = cs
commits_drawn (suc (suc n)) cs = []

abbrev pub drew : {C T : Type 0} → ℕ → View C T → View C T
drew n v = record { role = role_of n; commits = commits_drawn n v.commits; items = v.items; shown_commits = v.shown_commits; shown_items = v.shown_items; back = v.back }

abbrev pub with_line : {C T : Type 0} → C → View C T → View C T
with_line c v = record { role = v.role; commits = v.commits ++ c ∷ []; items = v.items; shown_commits = v.shown_commits; shown_items = v.shown_items; back = v.back }

abbrev pub with_item : {C T : Type 0} → PassItem T → View C T → View C T
with_item i v = record { role = v.role; commits = v.commits; items = v.items ++ i ∷ []; shown_commits = v.shown_commits; shown_items = v.shown_items; back = v.back }

-- THE RULE
-- what stands behind the views
pub record Story (C T : Type 0) : Type 0 where
  pub commits : List C
  pub items : List (PassItem T)
  -- how many numbers were drawn, and the seat that drew each
  pub passes : ℕ
  pub owner : ℕ → ℕ
  -- the passes that came back
  pub back : List ℕ

-- what is true of a view, by whose it is
abbrev pub Knows : {C T : Type 0} → Story C T → ℕ → View C T → Role → Type 0
Knows t seat v Note = v.back ≡ []
Knows t seat v Commits = (0 < t.passes) × (t.owner 0 ≡ seat) × (v.commits ≡ t.commits)
Knows t seat v Items = (1 < t.passes) × (t.owner 1 ≡ seat) × (v.items ≡ t.items) × (v.back ≡ t.back)
Knows t seat v (Pass n) = (1 < n) × (n < t.passes) × (t.owner n ≡ seat) × (is_among n t.back ≡ false)

-- each view's lists begin the whole ones
pub record IsBegun {C T : Type 0} (t : Story C T) (v : View C T) : Type 0 where
  pub commits : IsPrefix v.commits t.commits
  pub items : IsPrefix v.items t.items
  pub shown_commits : IsPrefix v.shown_commits t.commits
  pub shown_items : IsPrefix v.shown_items t.items

abbrev pub Fits : {C T : Type 0} → Story C T → ℕ → View C T → Type 0
Fits t seat v = Knows t seat v v.role × IsBegun t v

abbrev pub AllFit : {C T : Type 0} → Story C T → List (View C T) → Type 0
AllFit {C} {T} t views = (seat : ℕ) (v : View C T) → get_elem? views seat ≡ some v → Fits t seat v

-- the view of this seat has that role
abbrev pub IsRole : {C T : Type 0} → Role → ℕ → List (View C T) → Type 0
IsRole {C} {T} r seat views = (v : View C T) × (get_elem? views seat ≡ some v) × (v.role ≡ r)

pub record IsTale {C T : Type 0} (stops : C → Bool) (t : Story C T) : Type 0 where
  -- until a writer is drawn its list is the first one
  pub no_commits : t.passes ≡ 0 → t.commits ≡ []
  pub no_items : t.passes ≤ 1 → (t.items ≡ []) × (t.back ≡ [])
  pub stops_last : StopsLast stops t.commits
  pub few_passes : t.passes ≤ 2 ^ 62
  pub few_items : length t.items ≤ 2 ^ 62
  -- each pass came back once, and was drawn
  pub back_differ : AllDiffer t.back
  pub back_drawn : (n : ℕ) → t.passes ≤ n → is_among n t.back ≡ false

-- who writes a list is there, once its number is drawn
pub record AreWriters {C T : Type 0} (t : Story C T) (views : List (View C T)) : Type 0 where
  pub commits : 0 < t.passes → IsRole Commits (t.owner 0) views
  pub items : 1 < t.passes → IsRole Items (t.owner 1) views

-- The rule. The words are how many commits, passes and items there are; a noted stop counts as a commit.
abbrev pub IsNoted : {C T : Type 0} → (C → Bool) → State (Unit {0}) (View C T) → Type 0
IsNoted {C} {T} stops s = (t : Story C T) × (s.words ≡ length t.commits ∷ t.passes ∷ length t.items ∷ []) × IsTale stops t × AllFit t s.views × AreWriters t s.views

-- WHAT A STEP TELLS
abbrev Sat : Type 0 → Type 0 → Type 0
Sat C T = Me (Unit {0}) (View C T)

-- what a look shows, by whose the view is: a writer, how many there are of what it writes, and that what it was shown last begins its own
abbrev pub Shows : {C T : Type 0} → (C → Bool) → ℕ → ℕ → View C T → Role → Type 0
Shows stops word found v Note = Unit {0}
Shows stops word found v Commits = IsPrefix v.shown_commits v.commits × StopsLast stops v.commits × (word ≡ 0 → found ≡ length v.commits)
Shows stops word found v Items = IsPrefix v.shown_items v.items × AllDiffer v.back × (word ≡ 2 → found ≡ length v.items)
Shows stops word found v (Pass n) = Unit {0}

abbrev pub Looked : {C T : Type 0} → (C → Bool) → Step (Unit {0}) → Sat C T → ℕ → Sat C T → Type 0
Looked stops s v found w = (w ≡ v) × Shows stops s.word found v.0 v.0.role

-- the number was the one that was looked for, and is drawn, or it was another
abbrev pub Drawn : {C T : Type 0} → Step (Unit {0}) → Sat C T → ℕ → Sat C T → Type 0
Drawn s v found w = MatchBool (found == s.first) (w ≡ (drew found v.0, v.1)) (w ≡ v)

-- of the line, or the item, that the call names
abbrev pub Committed : {C T : Type 0} → Option C → Step (Unit {0}) → Sat C T → ℕ → Sat C T → Type 0
Committed {C} next s v found w = (c : C) → next ≡ Some c → w ≡ (with_line c v.0, v.1)

abbrev pub ItemNoted : {C T : Type 0} → Option (PassItem T) → Step (Unit {0}) → Sat C T → ℕ → Sat C T → Type 0
ItemNoted {C} {T} next s v found w = (i : PassItem T) → next ≡ Some i → w ≡ (with_item i v.0, v.1)

-- what may be taken in: nobody takes in who writes a list
abbrev pub IsTaken : Role → Type 0
IsTaken Note = Unit {0}
IsTaken Commits = ⊥
IsTaken Items = ⊥
IsTaken (Pass n) = Unit {0}
