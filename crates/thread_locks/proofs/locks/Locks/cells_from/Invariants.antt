use Rattle.std.proofs.Common.{◌≡◌, ◌≤◌, ◌+◌, ◌-◌, map}
use Rattle.std.specs.Prelude.{vec_len, vec_capacity}
use Rattle.std.specs.Sync.Mutex.{mutex_guard_value}
use Rattle.thread_locks.specs.Rows.{AreFrom}
use Rattle.thread_locks.proofs.locks.Locks.cells_from.Given as goal

abbrev pub invariant-loop-number : goal.invariant-loop-number
invariant-loop-number g l = record {
  row : AreFrom l.from (l.number - l.from) (map mutex_guard_value l.guards.items);
  len : vec_len l.guards + l.from ≡ l.number;
  room : l.room ≤ vec_capacity l.guards;
}
