use Rattle.std.proofs.Common.{◌≡◌, ◌≤◌, ◌<◌}
use Rattle.data_blocks.proofs.Holdings.{AreFreedFrom}
use Rattle.data_blocks.proofs.ledger.Ledger.end_all_named.Given as goal

abbrev pub invariant-loop-block : goal.invariant-loop-block
invariant-loop-block l = record {
  freed : AreFreedFrom l.initial.self-inside.pool.first l.initial.self-inside.pool.end l.initial.self-inside.held.items l.initial.self-inside.uses l.self-inside.pool l.block;
  held_same : l.self-inside.held ≡ l.initial.self-inside.held;
  uses_same : l.self-inside.uses ≡ l.initial.self-inside.uses;
  above : l.initial.self-inside.pool.first ≤ l.initial.self-inside.pool.end → l.initial.self-inside.pool.first ≤ l.block;
  none : l.initial.self-inside.pool.end < l.initial.self-inside.pool.first → l.block ≡ l.initial.self-inside.pool.end;
}
