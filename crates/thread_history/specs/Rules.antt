-- The rule of the chronicle's table, and what each step does to a view.
use Rattle.std.specs.Prelude.{◌≡◌, ℕ, zero, suc, ◌+◌, ◌<◌, ◌≤◌, Bool, true, false, ◌||◌, ◌==◌, nat_le, if◌then◌else◌, List, [], ◌∷◌, ◌++◌, length, filter, Option, Some}
use Rattle.std.specs.List.{list_any}
use mathlib.Core.Option.{some}
use mathlib.Core.List.{IsPrefix}
use lib.ListN.{get_elem?}
use Rattle.atomic_table.specs.Table.{State, Me, Step}
use Rattle.thread_history.specs.declared.views.View.{View}
use Rattle.thread_history.specs.declared.views.Role.{Role}
use Rattle.thread_history.specs.declared.views.Role.TheVariants.{Chronicler, Share, Note, NoteOf, Spent}

-- the items that concern x
abbrev pub concerning : {A : Type 0} → (A → ℕ → Bool) → ℕ → List A → List A
concerning concerns x es = filter (λ e. concerns e x) es

-- the number is one of these
abbrev pub is_among : ℕ → List ℕ → Bool
is_among x ys = list_any (λ y. y == x) ys

-- no number stands twice
abbrev pub AllDiffer : List ℕ → Type 0
AllDiffer [] = Unit {0}
AllDiffer (x ∷ xs) = (is_among x xs ≡ false) × AllDiffer xs

-- the longer of two lists, the first where they are as long
abbrev pub longer : {A : Type 0} → List A → List A → List A
longer xs ys = if nat_le (length ys) (length xs) then xs else ys

-- what was told of a number; nothing past the end
abbrev pub told_of : {A : Type 0} → List (List A) → ℕ → List A
told_of [] x = []
told_of (l ∷ ls) zero = l
told_of (l ∷ ls) (suc x) = told_of ls x

-- the same with another list for one number
abbrev pub tell : {A : Type 0} → List (List A) → ℕ → List A → List (List A)
tell [] zero m = m ∷ []
tell [] (suc x) m = [] ∷ tell [] x m
tell (l ∷ ls) zero m = m ∷ ls
tell (l ∷ ls) (suc x) m = l ∷ tell ls x m

-- VIEWS
abbrev pub opening_view : {A : Type 0} → View A
opening_view = record { role = Chronicler; since = []; list = []; told = []; shown = []; back = []; enrols = true; shares = 0 }

abbrev pub spent_view : {A : Type 0} → View A
spent_view = record { role = Spent; since = []; list = []; told = []; shown = []; back = []; enrols = false; shares = 0 }

-- the role of a note that a seat cuts off
abbrev pub note_role : Role → Role
note_role Chronicler = Note
note_role (Share x) = NoteOf x
note_role Note = Spent
note_role (NoteOf x) = Spent
note_role Spent = Spent

abbrev pub note_list : {A : Type 0} → Role → List A → List A
note_list Chronicler l = []
note_list (Share x) l = l
note_list Note l = []
note_list (NoteOf x) l = []
note_list Spent l = []

-- the right to enrol goes with the note
abbrev pub note_left : {A : Type 0} → View A → View A
note_left v = record { role = v.role; since = v.since; list = v.list; told = v.told; shown = v.shown; back = v.back; enrols = false; shares = v.shares }

abbrev pub note_right : {A : Type 0} → View A → View A
note_right v = record { role = note_role v.role; since = v.since; list = note_list v.role v.list; told = []; shown = []; back = []; enrols = v.enrols; shares = v.shares }

-- the known history after a note was taken in: the chronicle knows the longest
abbrev pub since_with : {A : Type 0} → Role → List A → List A → List A
since_with Chronicler xs ys = xs
since_with (Share x) xs ys = longer xs ys
since_with Note xs ys = xs
since_with (NoteOf x) xs ys = xs
since_with Spent xs ys = xs

-- what is told after a note was taken in
abbrev pub told_with : {A : Type 0} → Role → Role → List (List A) → List A → List (List A)
told_with Chronicler (NoteOf x) told l = tell told x (longer (told_of told x) l)
told_with Chronicler Chronicler told l = told
told_with Chronicler (Share x) told l = told
told_with Chronicler Note told l = told
told_with Chronicler Spent told l = told
told_with (Share y) r told l = told
told_with Note r told l = told
told_with (NoteOf y) r told l = told
told_with Spent r told l = told

-- the shares that came back, after a seat was taken in
abbrev pub back_with : Role → Role → List ℕ → List ℕ
back_with Chronicler (Share x) back = x ∷ back
back_with Chronicler Chronicler back = back
back_with Chronicler Note back = back
back_with Chronicler (NoteOf x) back = back
back_with Chronicler Spent back = back
back_with (Share y) r back = back
back_with Note r back = back
back_with (NoteOf y) r back = back
back_with Spent r back = back

abbrev pub with_note : {A : Type 0} → View A → View A → View A
with_note v w = record {
  role = v.role;
  since = since_with v.role v.since w.since;
  list = v.list;
  told = told_with v.role w.role v.told w.list;
  shown = w.since;
  back = back_with v.role w.role v.back;
  enrols = v.enrols || w.enrols;
  shares = if w.enrols then w.shares else v.shares;
}

abbrev pub share_view : {A : Type 0} → ℕ → View A → View A
share_view n v = record { role = Share n; since = v.since; list = []; told = []; shown = []; back = []; enrols = v.enrols; shares = n + 1 }

abbrev pub announced_view : {A : Type 0} → A → View A → View A
announced_view e v = record { role = v.role; since = v.since; list = v.list ++ e ∷ []; told = v.told; shown = v.shown; back = v.back; enrols = v.enrols; shares = v.shares }

abbrev pub appended_view : {A : Type 0} → A → View A → View A
appended_view e v = record { role = v.role; since = v.since ++ e ∷ []; list = v.list; told = v.told; shown = v.shown; back = v.back; enrols = v.enrols; shares = v.shares }

-- THE RULE
-- what stands behind the views
pub record Story (A : Type 0) : Type 0 where
  -- the seat of the chronicle, and the items after the kept ones
  pub chronicler : ℕ
  pub since : List A
  -- what the chronicle was told of each number, and what each share announced
  pub told : ℕ → List A
  pub lists : ℕ → List A
  -- the seat of each share, and the number of shares
  pub owner : ℕ → ℕ
  pub shares : ℕ
  -- the seat that may enrol
  pub enroller : ℕ
  -- the shares that came back
  pub back : List ℕ

-- what is true of a view, by whose it is
abbrev pub Knows : {A : Type 0} → Story A → ℕ → View A → Role → Type 0
Knows t seat v Chronicler = (seat ≡ t.chronicler) × (v.since ≡ t.since) × ((x : ℕ) → told_of v.told x ≡ t.told x) × IsPrefix v.shown t.since × (v.back ≡ t.back)
Knows t seat v (Share x) = (x < t.shares) × (t.owner x ≡ seat) × IsPrefix v.since t.since × (v.list ≡ t.lists x) × (is_among x t.back ≡ false)
Knows t seat v Note = IsPrefix v.since t.since
Knows t seat v (NoteOf x) = (x < t.shares) × IsPrefix v.since t.since × IsPrefix v.list (t.lists x)
Knows t seat v Spent = IsPrefix v.since t.since

abbrev pub Fits : {A : Type 0} → Story A → ℕ → View A → Type 0
Fits t seat v = Knows t seat v v.role × (v.enrols ≡ true → (seat ≡ t.enroller) × (v.shares ≡ t.shares))

abbrev pub AllFit : {A : Type 0} → Story A → List (View A) → Type 0
AllFit {A} t views = (seat : ℕ) (v : View A) → get_elem? views seat ≡ some v → Fits t seat v

-- the view of this seat is the chronicle's
abbrev pub IsChroniclers : {A : Type 0} → ℕ → List (View A) → Type 0
IsChroniclers {A} seat views = (v : View A) × (get_elem? views seat ≡ some v) × (v.role ≡ Chronicler)

-- the announced and the appended items are of one order
pub record IsTold {A : Type 0} (concerns : A → ℕ → Bool) (t : Story A) : Type 0 where
  pub told_is : (x : ℕ) → IsPrefix (t.told x) (t.lists x)
  pub appended : (x : ℕ) → IsPrefix (concerning concerns x t.since) (t.told x)
  pub unborn : (x : ℕ) → t.shares ≤ x → t.lists x ≡ []
  -- each share came back once, and was drawn
  pub back_differ : AllDiffer t.back
  pub back_drawn : (x : ℕ) → t.shares ≤ x → is_among x t.back ≡ false

-- The rule over the kept items and the table. The words are the length of the history, the number of announcements and the number of shares.
abbrev pub IsKept : {A : Type 0} → (A → ℕ → Bool) → List A → State (Unit {0}) (View A) → Type 0
IsKept {A} concerns kept s = (t : Story A) × (announced : ℕ) × (s.words ≡ (length kept + length t.since) ∷ announced ∷ t.shares ∷ []) × IsTold concerns t × AllFit t s.views × IsChroniclers t.chronicler s.views

-- WHAT A STEP TELLS
abbrev Sat : Type 0 → Type 0
Sat A = Me (Unit {0}) (View A)

-- what a look shows: of the chronicle, that the last note's history begins its own; of a share, that its list begins with the items that concern it
abbrev pub Shows : {A : Type 0} → (A → ℕ → Bool) → View A → Role → Type 0
Shows concerns v Chronicler = IsPrefix v.shown v.since × AllDiffer v.back
Shows concerns v (Share x) = IsPrefix (concerning concerns x v.since) v.list
Shows concerns v Note = Unit {0}
Shows concerns v (NoteOf x) = Unit {0}
Shows concerns v Spent = Unit {0}

abbrev pub Looked : {A : Type 0} → (A → ℕ → Bool) → Step (Unit {0}) → Sat A → ℕ → Sat A → Type 0
Looked concerns s v found w = (w ≡ v) × Shows concerns v.0 v.0.role

abbrev pub Enrolled : {A : Type 0} → Step (Unit {0}) → Sat A → ℕ → Sat A → Type 0
Enrolled s v found w = (w ≡ (share_view found v.0, v.1)) × (found ≡ v.0.shares)

-- of the item that the call names
abbrev pub Announced : {A : Type 0} → Option A → Step (Unit {0}) → Sat A → ℕ → Sat A → Type 0
Announced {A} next s v found w = (e : A) → next ≡ Some e → w ≡ (announced_view e v.0, v.1)

abbrev pub Appended : {A : Type 0} → Option A → Step (Unit {0}) → Sat A → ℕ → Sat A → Type 0
Appended {A} next s v found w = (e : A) → next ≡ Some e → w ≡ (appended_view e v.0, v.1)

-- what may be taken in: there is one chronicle, and nobody takes it in
abbrev pub IsTaken : Role → Type 0
IsTaken Chronicler = ⊥
IsTaken (Share x) = Unit {0}
IsTaken Note = Unit {0}
IsTaken (NoteOf x) = Unit {0}
IsTaken Spent = Unit {0}
