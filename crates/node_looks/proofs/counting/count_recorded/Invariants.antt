use Rattle.std.proofs.Common.{◌≡◌, count_by}
use Rattle.base_types.specs.Edges.{upto}
use Rattle.node_looks.specs.Counting.{has_record}
use Rattle.node_looks.proofs.counting.count_recorded.Given as goal

abbrev pub invariant-loop-number : goal.invariant-loop-number
invariant-loop-number l = l.count ≡ count_by (has_record l.cells) (upto l.number)
