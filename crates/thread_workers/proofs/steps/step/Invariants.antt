use Rattle.std.proofs.Common.{◌≡◌, ◌<◌}
use Rattle.thread_workers.proofs.steps.step.Given as goal

abbrev pub invariant-loop : goal.invariant-loop
invariant-loop g l = (goal.iterator-loop g).can_next l.iterator' × (goal.iterator-loop g).is_finite l.iterator' × (l.pass.items ≡ l.fn.pass.items) × (l.pass.number ≡ l.fn.pass.number) × (0 < l.pass.room)
