use Rattle.std.proofs.Common.{◌≡◌}
use Rattle.plain_states.specs.Born.{edges_below}
use Rattle.plain_states.proofs.tables.edges_from.Given as goal

abbrev pub invariant-loop-to : goal.invariant-loop-to
invariant-loop-to l = l.edges.items ≡ edges_below l.fn.newborn l.regions l.to-counter
