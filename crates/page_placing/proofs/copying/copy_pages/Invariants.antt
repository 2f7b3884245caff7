use Rattle.std.specs.Prelude.{Ok}
use Rattle.page_placing.proofs.Copied.{CopiedBelow}
use Rattle.page_placing.specs.Placing.{GoesOn}
use Rattle.page_placing.proofs.copying.copy_pages.Given as goal

abbrev pub invariant-loop-page : goal.invariant-loop-page
invariant-loop-page g l = record {
  copied : CopiedBelow g.B.PageStore l.from.0 l.page l.table.0 l.fn.store l.store;
  goes_on : GoesOn g.B.PageStore l.fn.store l.store (Ok (tt {0}));
}
