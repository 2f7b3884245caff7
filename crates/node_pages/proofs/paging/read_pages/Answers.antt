use Rattle.std.proofs.Common.{◌++◌, ℕ, List, add-one, sym, ap, ◌∙◌}
use Rattle.std.specs.Prelude.{slice_index}
use Rattle.node_pages.proofs.Paged.{one_of, pages_then, read_start, well_then, words_back}
use Rattle.node_pages.proofs.Pages.{page_same, pages_next, pages_none}
use Rattle.node_pages.specs.Reading.{page_in, pages_to}
use Rattle.node_pages.proofs.paging.read_pages.Goals as goal

pub loop-page-init : goal.loop-page-init
loop-page-init g c = record {
  pages = λ t. c.requires.empty ∙ pages_none (g.B.PageStore.words c.args.store.now) c.args.table.now;
  reads = read_start g.B.PageStore g.met.B.PageStore.stays c.args.store.now c.requires.working;
}

pub loop-page-preserved : goal.loop-page-preserved
loop-page-preserved g c =
    let i : ℕ = c.loop-page.page in
    let block : ℕ = slice_index c.args.table.now i in
    let words : ℕ → List ℕ = g.B.PageStore.words c.args.store.now in
    let first = one_of g.B.PageStore c.args.store.now c.loop-page.store _ c.loop-page.invariant.reads in
    record {
      pages = λ t.
          c.in-Ok.ensures.pages t
          ∙ ap (λ ps. c.loop-page.pages.items ++ ps) (page_same words (g.B.PageStore.words c.loop-page.store) i block (λ some. words_back g.B.PageStore g.met.B.PageStore.goes_on c.args.store.now c.loop-page.store c.read_one.new.store first t block (c.in-Ok.ensures.named some)))
          ∙ ap (λ ps. ps ++ page_in words i block) (c.loop-page.invariant.pages t)
          ∙ pages_next words c.args.table.now i
          ∙ sym (ap (pages_to words c.args.table.now) (add-one i));
      reads = well_then g.B.PageStore g.met.B.PageStore.goes_on c.args.store.now c.loop-page.store c.read_one.new.store first _ tt c.read_one.ensures.reads c.in-Ok.ensures.reads.ok;
    }

pub returns-in-Err : goal.returns-in-Err
returns-in-Err g c =
    let first = one_of g.B.PageStore c.args.store.now c.loop-page.store _ c.loop-page.invariant.reads in
    record { pages = λ t. tt; reads = pages_then g.B.PageStore g.met.B.PageStore.goes_on c.args.store.now c.loop-page.store c.read_one.new.store first _ c.in-Err.ensures.reads }
