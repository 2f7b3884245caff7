use Rattle.std.proofs.Common.{◌≡◌, ◌+◌, drop}
use Rattle.std.specs.List.{position_or_len}
use Rattle.plain_states.specs.EdgeLists.{is_reached}
use Rattle.plain_states.proofs.edges.place_of_edge.Given as goal

abbrev pub invariant-loop-place : goal.invariant-loop-place
invariant-loop-place l = l.place + position_or_len (is_reached l.from l.to) (drop l.place l.edges) ≡ position_or_len (is_reached l.from l.to) l.edges
