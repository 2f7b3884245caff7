use Rattle.std.proofs.Common.{◌≡◌, ◌*◌, ◌≤◌, sum_by, take}
use Rattle.kernel_commit_facts.specs.cell_blobs.Blobs.{need_in}
use Rattle.kernel_commit_facts.specs.store_facts.State.{books}
use Rattle.kernel_commit_facts.specs.store_books.Books.{kept_names}
use Rattle.kernel_commits.proofs.needing.all_needs.Given as goal

abbrev pub invariant-loop-cell : goal.invariant-loop-cell
invariant-loop-cell g l = record {
  sum : l.sum ≡ sum_by (need_in (kept_names (books l.store))) (take l.cell-index l.cells);
  few : l.sum ≤ 264 * l.cell-index;
}
