use Rattle.std.proofs.Common.{ap}
use Rattle.edge_managers.specs.Managers.{counted_word}
use Rattle.page_store.specs.Memory.{is_held, words_at}
use Rattle.page_memory.specs.declared.paged.PagedMemory.{PagedMemory}
use Rattle.test_pages.proofs.Starting.{no_block, none_held}
use Rattle.test_pages.proofs.own.OwnPages.new.Goals as goal

pub begin-requires-clause-none_past : goal.begin-requires-clause-none_past
begin-requires-clause-none_past c page _ = no_block c.new-3.result.0 256 c.new-3.ensures page

pub invariant_of-result : goal.invariant_of-result
invariant_of-result c = record {
  own = record {
    tag_is = ap (λ (m : PagedMemory). m.tag) c.begin.ensures.is;
    size = ap (λ (m : PagedMemory). m.pages) c.begin.ensures.is;
    table = c.begin.ensures.table (is_held c.in_ok-store.store.pages.items) (none_held c.new-3.result.0 256 c.new-3.ensures (is_held c.in_ok-store.store.pages.items));
    clean = c.begin.ensures.clean counted_word (words_at c.in_ok-store.store.pages.items);
  };
}
