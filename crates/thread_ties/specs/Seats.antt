-- Seats at the table.
use Rattle.std.specs.Prelude.{◌≡◌, true, List, [], ◌∷◌, Option, Some, None}
use Rattle.atomic_table.specs.declared.shared.Seat.{Seat}
use Rattle.atomic_table.specs.declared.owned.Table.{Table}
use Rattle.thread_ties.specs.declared.views.Piece.{Piece}
use Rattle.thread_ties.specs.declared.views.View.{View}
use Rattle.thread_ties.specs.Rules.{fragment_view}

-- a seat of this table, which has one word
abbrev pub IsAt : {S V K R A : Type 0} → Table S V K R A → Seat S V → Type 0
IsAt table seat = (seat.table_id ≡ table.shared.table_id) × (table.shared.table_id.words ≡ 1)

-- a view of the authority, with no fragment in its hands
pub record IsAuthority {V : Type 0} (v : View V) : Type 0 where
  pub leads : v.leads ≡ true
  pub pieces : v.pieces ≡ []

-- a view of a fragment
abbrev pub IsFragment : {V : Type 0} → View V → Type 0
IsFragment {V} v = (p : Piece V) × (v ≡ fragment_view p)

-- the authority's view, where it has one fragment in its hands
abbrev pub holding : {V : Type 0} → List V → Piece V → View V
holding vs p = record { leads = true; values = vs; pieces = p ∷ [] }

-- so that it may give it a new value
abbrev pub MayGet : {V : Type 0} → Option V → View V → Type 0
MayGet None v = Unit {0}
MayGet {V} (Some x) v = (vs : List V) × (p : Piece V) × (v ≡ holding vs p)
