use Rattle.std.proofs.Common.{◌≡◌, ◌≤◌, ◌+◌}
use Rattle.std.specs.Prelude.{vec_len, vec_capacity}
use Rattle.thread_settling.specs.Rows.{AreBeside}
use Rattle.thread_settling.proofs.rows.lock_all.Given as goal

abbrev pub invariant-loop-n : goal.invariant-loop-n
invariant-loop-n g l = record {
  beside : AreBeside l.cells.items l.shares.items l.fragments.items;
  left : vec_len l.cells + l.n ≡ 64;
  len : vec_len l.locks ≡ l.n;
  room : 64 ≤ vec_capacity l.locks;
}
