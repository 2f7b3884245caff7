use Rattle.std.specs.Prelude.{◌≡◌, ◌<◌, ℕ, Some, slice_get, take}
use Rattle.node_shipments.specs.node_store.page_placing.Writing.{AreAscending}
use Rattle.node_shipments.specs.node_store.page_placing.declared.writing.PageWords.{PageWords}
use Rattle.node_shipments.proofs.reading.are_ascending.Given as goal

-- the pages so far ascend, below the least that may come and below the size
abbrev pub invariant-loop-page : goal.invariant-loop-page
invariant-loop-page l = record {
  ascending : AreAscending (take l.page-index l.pages);
  below : (k : ℕ) (q : PageWords) → slice_get (take l.page-index l.pages) k ≡ Some q → (q.page < l.least) × (q.page < l.size);
}
