use Rattle.std.proofs.Common.{◌≡◌, ◌≤◌, ◌+◌}
use Rattle.std.specs.Prelude.{vec_len, vec_capacity}
use Rattle.thread_items.specs.thread_settling.Rows.{AreBeside}
use Rattle.thread_locks.proofs.sides.lock_cells.Given as goal

abbrev pub invariant-loop-n : goal.invariant-loop-n
invariant-loop-n g l = record {
  beside : AreBeside l.cells.items l.shares.items l.fragments.items;
  left : vec_len l.cells + l.n ≡ 64;
  len : vec_len l.locks ≡ l.n;
  room : 64 ≤ vec_capacity l.locks;
}
