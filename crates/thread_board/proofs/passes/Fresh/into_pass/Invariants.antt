use Rattle.std.proofs.Common.{◌<◌}
use Rattle.thread_board.proofs.passes.Fresh.into_pass.Given as goal

abbrev pub invariant-loop : goal.invariant-loop
invariant-loop g l = (goal.iterator-loop g).can_next l.iterator' × (goal.iterator-loop g).is_finite l.iterator' × (1 < l.number)
