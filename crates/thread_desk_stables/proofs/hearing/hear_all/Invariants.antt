use Rattle.std.specs.Prelude.{◌≡◌, map}
use Rattle.std.specs.Sync.Mutex.{mutex_guard_value}
use Rattle.thread_stables.specs.thread_settling.Rows.{IsRow}
use Rattle.thread_desk_stables.specs.Rows.{keeping_of}
use Rattle.thread_desk_stables.proofs.Heard.{HeardBelow}
use Rattle.thread_desk_stables.proofs.hearing.hear_all.Given as goal

abbrev pub invariant-loop-i : goal.invariant-loop-i
invariant-loop-i g l = record {
  all : l.all ≡ l.fn.all;
  annals : l.annals ≡ l.fn.annals;
  row : IsRow (map (λ it. keeping_of (mutex_guard_value it)) l.cells);
  heard : HeardBelow l.fn.annals l.i (map (λ it. keeping_of (mutex_guard_value it)) l.cells);
}
