use Rattle.std.proofs.Common.{◌≡◌, ◌*◌, ◌≤◌, map, sum_by, take}
use Rattle.std.specs.Sync.Mutex.{mutex_guard_value}
use Rattle.thread_commits.specs.kernel_commit_facts.cell_blobs.Blobs.{need_in}
use Rattle.thread_commits.specs.kernel_commit_facts.store_facts.State.{books}
use Rattle.thread_commits.specs.kernel_commit_facts.store_books.Books.{kept_names}
use Rattle.thread_settling.proofs.needing.all_needs.Given as goal

abbrev pub invariant-loop-i : goal.invariant-loop-i
invariant-loop-i g l = record {
  all : l.all ≡ l.fn.all;
  cells : map (λ it. g.C.CellInLock.keeping (mutex_guard_value it)) l.cells ≡ map (λ it. g.C.CellInLock.keeping (mutex_guard_value it)) l.fn.cells;
  sum : l.sum ≡ sum_by (need_in (kept_names (books l.store))) (take l.i l.fn.all);
  few : l.sum ≤ 264 * l.i;
}
