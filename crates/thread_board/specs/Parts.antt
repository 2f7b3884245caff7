-- What the rule says of the views, whatever the table is.
use Rattle.std.specs.Prelude.{◌≡◌, ◌<◌, ◌≤◌, ◌^◌, ℕ, Bool, [], length, slice_index, Option, Some, None}
use mathlib.Core.Option.{some}
use mathlib.Core.List.{IsPrefix}
use lib.ListN.{get_elem?}
use Rattle.atomic_table.specs.Table.{State}
use Rattle.thread_board.specs.declared.views.View.{View}
use Rattle.thread_board.specs.declared.views.Role.{Role}
use Rattle.thread_board.specs.declared.views.Role.TheVariants.{Note, Commits, Items, Pass}
use Rattle.thread_board.specs.Lines.{StopsLast}
use Rattle.thread_board.specs.Rules.{IsNoted, IsRole}

-- the number that the seat drew
abbrev pub number_of : Role → Option ℕ
number_of Note = None
number_of Commits = Some 0
number_of Items = Some 1
number_of (Pass n) = Some n

module _ (C T : Type 0) (stops : C → Bool) where
  -- who writes commits has as many as the first word says, and what each view knows begins them; a stop is the last
  abbrev pub AreCommits : Type 0
  AreCommits = (s : State (Unit {0}) (View C T)) → IsNoted stops s → (seat : ℕ) (u : View C T) → get_elem? s.views seat ≡ some u → u.role ≡ Commits
      → (slice_index s.words 0 ≡ length u.commits) × StopsLast stops u.commits × ((other : ℕ) (v : View C T) → get_elem? s.views other ≡ some v → IsPrefix v.commits u.commits)

  -- who writes items has as many as the third word says, and what each view knows begins them
  abbrev pub AreItems : Type 0
  AreItems = (s : State (Unit {0}) (View C T)) → IsNoted stops s → (seat : ℕ) (u : View C T) → get_elem? s.views seat ≡ some u → u.role ≡ Items
      → (slice_index s.words 2 ≡ length u.items) × ((other : ℕ) (v : View C T) → get_elem? s.views other ≡ some v → IsPrefix v.items u.items)

  -- the numbers that were drawn are below the second word, and differ
  abbrev pub AreNumbers : Type 0
  AreNumbers = (s : State (Unit {0}) (View C T)) → IsNoted stops s
      → ((n seat : ℕ) (v : View C T) → get_elem? s.views seat ≡ some v → number_of v.role ≡ Some n → n < slice_index s.words 1)
      × ((n seat other : ℕ) (v u : View C T) → get_elem? s.views seat ≡ some v → number_of v.role ≡ Some n → get_elem? s.views other ≡ some u → number_of u.role ≡ Some n → seat ≡ other)

  -- who writes a list is there once its number is drawn; until then every view's list is the first one
  abbrev pub AreWritten : Type 0
  AreWritten = (s : State (Unit {0}) (View C T)) → IsNoted stops s
      → (0 < slice_index s.words 1 → (seat : ℕ) × IsRole Commits seat s.views)
      × (1 < slice_index s.words 1 → (seat : ℕ) × IsRole Items seat s.views)
      × ((seat : ℕ) (v : View C T) → get_elem? s.views seat ≡ some v → (slice_index s.words 1 ≡ 0 → v.commits ≡ []) × (slice_index s.words 1 ≤ 1 → v.items ≡ []))

  -- the words of passes and items are at most 2^62
  abbrev pub AreFew : Type 0
  AreFew = (s : State (Unit {0}) (View C T)) → IsNoted stops s → (slice_index s.words 1 ≤ 2 ^ 62) × (slice_index s.words 2 ≤ 2 ^ 62)
