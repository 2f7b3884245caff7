use Rattle.std.specs.Prelude.{◌≡◌, Ok}
use Rattle.node_pages.specs.Reading.{HasReadPages, pages_to}
use Rattle.node_pages.proofs.paging.read_pages.Given as goal

-- the pages so far, of the store as it was
abbrev pub invariant-loop-page : goal.invariant-loop-page
invariant-loop-page g l = record {
  pages : g.B.PageStore.tells → l.pages.items ≡ pages_to (g.B.PageStore.words l.fn.store) l.table l.page;
  reads : HasReadPages g.B.PageStore l.fn.store l.store (Ok (tt {0}));
}
