-- The list of edges of plain states: in order between containers, marked on the way out, counted up and down.
use Rattle.std.specs.Prelude.{ℕ, ◌+◌, ◌-◌, Bool, not, ◌&&◌, ◌||◌, ◌==◌, nat_lt, nat_le, if◌then◌else◌, List, [], ◌∷◌}
use Rattle.model_sound_runs.specs.model_circles.Containers.{IsAmongContainers}
use Rattle.model_sound_runs.specs.model_circles.Marks.{is_marked}
use Rattle.plain_states.specs.Born.{AreEdges}
use Rattle.plain_states.specs.Plains.{edges_of}
use Rattle.plain_states.specs.declared.plain.Edge.{Edge}

-- edges in order, between containers
pub record AreReadyEdges (es : List Edge) : Type 0 where
  pub edges : AreEdges es
  pub among : IsAmongContainers (edges_of es)

-- the edge leads from a marked number to one that isn't
abbrev pub leads_out : List Bool → Edge → Bool
leads_out marks e = is_marked marks e.from && not (is_marked marks e.to)

-- EDGES IN THE LIST

abbrev pub is_edge : ℕ → ℕ → Edge → Bool
is_edge from to e = e.from == from && e.to == to

-- the edge is the one from `from` to `to`, or stands behind it
abbrev pub is_reached : ℕ → ℕ → Edge → Bool
is_reached from to e = nat_lt from e.from || from == e.from && nat_le to e.to

-- one region more of `to` that `from` shows
abbrev pub edge_more : ℕ → ℕ → List Edge → List Edge
edge_more from to [] = record { from = from; to = to; count = 1 } ∷ []
edge_more from to (e ∷ es) =
    if is_reached from to e
    then if is_edge from to e then record { from = e.from; to = e.to; count = e.count + 1 } ∷ es else record { from = from; to = to; count = 1 } ∷ e ∷ es
    else e ∷ edge_more from to es

-- one less; an edge that counts none is gone
abbrev pub edge_less : ℕ → ℕ → List Edge → List Edge
edge_less from to [] = []
edge_less from to (e ∷ es) =
    if is_edge from to e then if nat_lt 1 e.count then record { from = e.from; to = e.to; count = e.count - 1 } ∷ es else es else e ∷ edge_less from to es
