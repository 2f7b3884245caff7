use Rattle.std.proofs.Common.{◌≡◌, ◌≤◌, ℕ, true, Some}
use Rattle.std.specs.Prelude.{slice_get, slice_index}
use Rattle.page_placing.specs.declared.writing.PageWords.{PageWords}
use Rattle.page_placing.specs.Writing.{HasGivenBack}
use Rattle.page_placing.proofs.writing.give_back_pages.Given as goal

abbrev pub invariant-loop-page : goal.invariant-loop-page
invariant-loop-page g l = record {
  given : HasGivenBack g.B.PageStore l.pages l.page-index l.table.0 l.fn.store l.store;
  still : (k : ℕ) (q : PageWords) → l.page-index ≤ k → slice_get l.pages k ≡ Some q → g.B.PageStore.held l.store (slice_index l.table.0 q.page) ≡ true;
  kept : g.B.PageStore.kept_names l.store ≡ g.B.PageStore.kept_names l.fn.store;
  same_shut : g.B.PageStore.is_shut l.store ≡ g.B.PageStore.is_shut l.fn.store;
  between : g.B.PageStore.Pages l.fn.store l.store;
}
