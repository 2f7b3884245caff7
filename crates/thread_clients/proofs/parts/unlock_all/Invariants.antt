use Rattle.std.proofs.Common.{◌≡◌, ◌≤◌, ◌+◌, take}
use Rattle.std.specs.Prelude.{vec_len, vec_capacity}
use Rattle.thread_clients.proofs.parts.unlock_all.Given as goal

abbrev pub invariant-loop-number : goal.invariant-loop-number
invariant-loop-number g l = record {
  all : l.all ≡ l.fn.all;
  left : vec_len l.locks + l.number ≡ 64;
  cells : l.cells.items ≡ take l.number l.fn.all;
  len : vec_len l.cells ≡ l.number;
  room : 64 ≤ vec_capacity l.cells;
}
