use Rattle.std.proofs.Common.{◌≡◌, ◌<◌, ℕ, false}
use Rattle.node_looks.specs.Counting.{flag_at}
use Rattle.node_looks.proofs.counting.clear.Given as goal

abbrev pub invariant-loop-number : goal.invariant-loop-number
invariant-loop-number l = (x : ℕ) → x < l.number → flag_at l.changed x ≡ false
