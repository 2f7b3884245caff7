use Rattle.std.proofs.Common.{◌≡◌, [], length, take}
use Rattle.kernel_runs.specs.kernel_invariant.Beginnings.{Beginning, BeginsRight, IsLegal, completed}
use Rattle.node_looks.specs.Counting.{HaveChanged}
use Rattle.node_looks.proofs.counting.commits_made.Given as goal

abbrev pub invariant-loop-entry : goal.invariant-loop-entry
invariant-loop-entry l = (b : Beginning) → BeginsRight b → IsLegal b l.fn.history → l.fn.opened ≡ length (completed b [])
    → HaveChanged b (take l.entry-index l.fn.history) l.changed × (l.made ≡ length (completed b (take l.entry-index l.fn.history)))
