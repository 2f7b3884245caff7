use Rattle.std.proofs.Common.{◌≡◌, ◌+◌, length}
use Rattle.std.specs.Prelude.{vec_len}
use Rattle.thread_locks.proofs.closing.unlock_all.Given as goal

abbrev pub invariant-loop-n : goal.invariant-loop-n
invariant-loop-n g l = record {
  values : l.returning.values ≡ l.initial.returning.values;
  back : length l.returning.back ≡ l.n;
  left : vec_len l.locks + l.n ≡ 64;
}
