use Rattle.std.proofs.Common.{◌≡◌, count_by}
use Rattle.base_types.specs.Edges.{upto}
use Rattle.node_looks.specs.Counting.{flag_at}
use Rattle.node_looks.proofs.counting.count_changed.Given as goal

abbrev pub invariant-loop-number : goal.invariant-loop-number
invariant-loop-number l = l.count ≡ count_by (flag_at l.changed) (upto l.number)
