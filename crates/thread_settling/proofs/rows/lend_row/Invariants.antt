use Rattle.std.proofs.Common.{◌≡◌, ◌≤◌, ℕ, Some, slice_get, map}
use Rattle.std.specs.Prelude.{vec_len, vec_capacity}
use Rattle.std.specs.Sync.Mutex.{mutex_guard_value}
use Rattle.thread_cells.specs.Locked.{Keeping}
use Rattle.thread_settling.proofs.rows.lend_row.Given as goal

abbrev pub invariant-loop-number : goal.invariant-loop-number
invariant-loop-number g l = record {
  len : vec_len l.guards ≡ l.number;
  room : 64 ≤ vec_capacity l.guards;
  each : (i : ℕ) (k : Keeping) → slice_get (map (λ it. g.C.CellInLock.keeping (mutex_guard_value it)) l.guards.items) i ≡ Some k → k.number ≡ i;
}
