use Rattle.std.specs.Prelude.{Ok}
use Rattle.page_placing.specs.Placing.{GoesOn}
use Rattle.page_placing.specs.Writing.{AreWritten}
use Rattle.page_placing.proofs.writing.write_pages.Given as goal

abbrev pub invariant-loop-page : goal.invariant-loop-page
invariant-loop-page g l = record {
  written : AreWritten g.B.PageStore l.pages l.page-index l.table.0 l.fn.store l.store;
  goes_on : GoesOn g.B.PageStore l.fn.store l.store (Ok (tt {0}));
}
