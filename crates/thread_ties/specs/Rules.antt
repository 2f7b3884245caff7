-- The rule of the table, and what each step does to a view.
use Rattle.std.specs.Prelude.{◌≡◌, ℕ, suc, true, false, List, [], ◌∷◌, ◌++◌, map, Option, Some, None, slice_get, slice_set}
use Rattle.thread_history.specs.Rules.{is_among}
use mathlib.Core.Option.{some}
use lib.ListN.{get_elem?}
use Rattle.atomic_table.specs.Table.{State, Me, Step}
use Rattle.thread_ties.specs.declared.views.Piece.{Piece}
use Rattle.thread_ties.specs.declared.views.View.{View}

abbrev pub numbers : {V : Type 0} → List (Piece V) → List ℕ
numbers ps = map (λ p. p.number) ps

-- the fragments of these values, whose numbers go up from n
abbrev pub numbered : {V : Type 0} → ℕ → List V → List (Piece V)
numbered n [] = []
numbered n (v ∷ vs) = record { number = n; value = v } ∷ numbered (suc n) vs

abbrev pub first_of : {A : Type 0} → List A → List A
first_of [] = []
first_of (x ∷ xs) = x ∷ []

abbrev pub rest_of : {A : Type 0} → List A → List A
rest_of [] = []
rest_of (x ∷ xs) = xs

-- WHAT CALLERS SEE OF A FRAGMENT
pub record Shown (V : Type 0) : Type 0 where
  pub number : ℕ
  -- some value, of each fragment
  pub value : Option V

abbrev pub shown : {V : Type 0} → Piece V → Shown V
shown p = record { number = p.number; value = Some p.value }

-- the first of these
abbrev pub shown_of : {V : Type 0} → List (Piece V) → Shown V
shown_of [] = record { number = 0; value = None }
shown_of (p ∷ ps) = shown p

-- THE NEW VALUE
-- the values, where number n has this one
abbrev pub changed : {V : Type 0} → Option V → ℕ → List V → List V
changed None n vs = vs
changed (Some x) n vs = slice_set vs n x

-- the fragment, where it has this value
abbrev pub with_shown : {V : Type 0} → Option V → Shown V → Shown V
with_shown None f = f
with_shown (Some x) f = record { number = f.number; value = Some x }

abbrev pub with_value : {V : Type 0} → Option V → List (Piece V) → List (Piece V)
with_value None ps = ps
with_value (Some x) [] = []
with_value (Some x) (p ∷ ps) = record { number = p.number; value = x } ∷ ps

-- VIEWS
abbrev pub opening_view : {V : Type 0} → View V
opening_view = record { leads = true; values = []; pieces = [] }

abbrev pub no_view : {V : Type 0} → View V
no_view = record { leads = false; values = []; pieces = [] }

abbrev pub fragment_view : {V : Type 0} → Piece V → View V
fragment_view p = record { leads = false; values = []; pieces = p ∷ [] }

-- the first fragment is given out
abbrev pub rest_view : {V : Type 0} → View V → View V
rest_view v = record { leads = v.leads; values = v.values; pieces = rest_of v.pieces }

abbrev pub first_view : {V : Type 0} → View V → View V
first_view v = record { leads = false; values = []; pieces = first_of v.pieces }

-- the fragments of another are taken in
abbrev pub with_pieces : {V : Type 0} → View V → View V → View V
with_pieces v w = record { leads = v.leads; values = v.values; pieces = w.pieces ++ v.pieces }

-- the first fragment in hand gets this value
abbrev pub told_view : {V : Type 0} → Option V → View V → View V
told_view value v = record { leads = v.leads; values = changed value (shown_of v.pieces).number v.values; pieces = with_value value v.pieces }

abbrev pub begun_view : {V : Type 0} → List V → View V
begun_view vs = record { leads = true; values = vs; pieces = numbered 0 vs }

-- THE RULE
-- what stands behind the views
pub record Story (V : Type 0) : Type 0 where
  -- the seat of the authority
  pub lead : ℕ
  -- the value of each number
  pub values : List V
  -- the seat that has the fragment of each number in its hands
  pub owner : ℕ → ℕ

-- the fragments in the hands of a seat are its own
abbrev pub AllOwned : {V : Type 0} → (ℕ → ℕ) → ℕ → List (Piece V) → Type 0
AllOwned owner seat [] = Unit {0}
AllOwned owner seat (p ∷ ps) = (owner p.number ≡ seat) × AllOwned owner seat ps

-- each fragment has the value of its number, and no number stands twice
abbrev pub AllHeld : {V : Type 0} → List V → List (Piece V) → Type 0
AllHeld vs [] = Unit {0}
AllHeld vs (p ∷ ps) = (slice_get vs p.number ≡ Some p.value) × (is_among p.number (numbers ps) ≡ false) × AllHeld vs ps

abbrev pub Fits : {V : Type 0} → Story V → ℕ → View V → Type 0
Fits t seat v = (v.leads ≡ true → (seat ≡ t.lead) × (v.values ≡ t.values)) × AllOwned t.owner seat v.pieces × AllHeld t.values v.pieces

abbrev pub AllFit : {V : Type 0} → Story V → List (View V) → Type 0
AllFit {V} t views = (seat : ℕ) (v : View V) → get_elem? views seat ≡ some v → Fits t seat v

-- the view of this seat is the authority's
abbrev pub IsLed : {V : Type 0} → ℕ → List (View V) → Type 0
IsLed {V} seat views = (v : View V) × (get_elem? views seat ≡ some v) × (v.leads ≡ true)

abbrev pub IsTied : {V : Type 0} → State (Unit {0}) (View V) → Type 0
IsTied {V} s = (t : Story V) × AllFit t s.views × IsLed t.lead s.views

-- WHAT A STEP TELLS
abbrev Sat : Type 0 → Type 0
Sat V = Me (Unit {0}) (View V)

abbrev pub Told : {V : Type 0} → Option V → Step (Unit {0}) → Sat V → ℕ → Sat V → Type 0
Told value s v found w = (w ≡ (told_view value v.0, v.1)) × AllHeld v.0.values v.0.pieces

abbrev pub Begun : {V : Type 0} → List V → Step (Unit {0}) → Sat V → ℕ → Sat V → Type 0
Begun vs s v found w = w ≡ (begun_view vs, v.1)
