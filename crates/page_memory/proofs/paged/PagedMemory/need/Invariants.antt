use Rattle.std.proofs.Common.{◌≡◌, ◌≤◌}
use Rattle.page_memory.specs.Words.{need_below}
use Rattle.page_memory.proofs.paged.PagedMemory.need.Given as goal

-- those of the pages so far are counted
abbrev pub invariant-loop-page : goal.invariant-loop-page
invariant-loop-page g l = record {
  few : l.need ≤ l.page;
  counted : l.need ≡ need_below (g.B.PageStore.kept_names l.store) l.self l.page;
}
