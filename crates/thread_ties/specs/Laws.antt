-- What the rule says of the views, whatever the table is.
use Rattle.std.specs.Prelude.{◌≡◌, ℕ, true, Some, slice_get}
use mathlib.Core.Option.{some}
use lib.ListN.{get_elem?}
use Rattle.atomic_table.specs.Table.{State}
use Rattle.thread_ties.specs.declared.views.Piece.{Piece}
use Rattle.thread_ties.specs.declared.views.View.{View}
use Rattle.thread_ties.specs.Rules.{IsTied, fragment_view, numbers}
use Rattle.thread_history.specs.Rules.{is_among}

-- one view is the authority's, and no other
abbrev pub IsOneAuthority : Type 0 → Type 0
IsOneAuthority V = (s : State (Unit {0}) (View V)) → IsTied s
    → (seat : ℕ) × (u : View V) × (get_elem? s.views seat ≡ some u) × (u.leads ≡ true)
    × ((other : ℕ) (v : View V) → get_elem? s.views other ≡ some v → v.leads ≡ true → other ≡ seat)

-- a number has one fragment at most, which is in no other seat's hands
abbrev pub IsOneEach : Type 0 → Type 0
IsOneEach V = (s : State (Unit {0}) (View V)) → IsTied s
    → (seat other : ℕ) (p : Piece V) (v : View V) → get_elem? s.views seat ≡ some (fragment_view p) → get_elem? s.views other ≡ some v
    → is_among p.number (numbers v.pieces) ≡ true → seat ≡ other

-- the value of a fragment is the authority's value of its number
abbrev pub AreSame : Type 0 → Type 0
AreSame V = (s : State (Unit {0}) (View V)) → IsTied s
    → (seat other : ℕ) (p : Piece V) (u : View V) → get_elem? s.views seat ≡ some (fragment_view p) → get_elem? s.views other ≡ some u → u.leads ≡ true
    → slice_get u.values p.number ≡ Some p.value
