use Rattle.std.proofs.Common.{◌≡◌, drop}
use Rattle.node_world.proofs.senders.drop_first.Given as goal

abbrev pub invariant-loop : goal.invariant-loop
invariant-loop g l = l.waiting.items ≡ drop l.counter l.fn.waiting.items
