use Rattle.std.proofs.Common.{ℕ, [], arith}
use Rattle.std.specs.Prelude.{slice_index_or}
use Rattle.std.proofs.lemmas.Option.{slice_get-get_or}
use Rattle.page_placing.specs.declared.writing.PageWords.{PageWords}
use Rattle.page_placing.proofs.Placed.{goes_failed, goes_further, goes_nowhere}
use Rattle.page_placing.proofs.Written.{none_written, written_more}
use Rattle.page_placing.proofs.writing.write_pages.Goals as goal

pub loop-page-init : goal.loop-page-init
loop-page-init g c = record {
  written = none_written g.B.PageStore c.args.pages.now c.args.table.now.0 c.args.store.now c.requires.empty;
  goes_on = goes_nowhere g.B.PageStore c.args.store.now (g.met.B.PageStore.stays c.args.store.now);
}

pub place_page-requires : goal.place_page-requires
place_page-requires g c =
    let count = c.loop-page.invariant.written.taken.free_is in
    let more = c.loop-page-test.true in
    let enough = c.requires.free in
    omega (arith, count, more, enough)

pub returns-in_err-place_page-clause-goes_on : goal.returns-in_err-place_page-clause-goes_on
returns-in_err-place_page-clause-goes_on g c =
    goes_further g.B.PageStore g.met.B.PageStore.goes_on c.args.store.now c.loop-page.store c.place_page.new.store tt _ c.loop-page.invariant.goes_on
    (goes_failed g.B.PageStore c.loop-page.store c.place_page.new.store _ _ c.from_residual.ensures.0 c.in_err-place_page.ensures.goes_on)

pub loop-page-preserved : goal.loop-page-preserved
loop-page-preserved g c =
    let i : ℕ = c.loop-page.page-index in
    let q : PageWords = slice_index_or c.args.pages.now i (record { page = 0; words = [] }) in
    record {
      written = written_more g.B.PageStore c.args.pages.now i c.loop-page.table.0 c.place_page.new.table.0 c.args.store.now c.loop-page.store c.place_page.new.store q c.loop-page.invariant.written
          c.in_ok-place_page.ensures.placed c.requires.ascending (slice_get-get_or c.args.pages.now i (record { page = 0; words = [] }) c.loop-page-test.true);
      goes_on = goes_further g.B.PageStore g.met.B.PageStore.goes_on c.args.store.now c.loop-page.store c.place_page.new.store tt _ c.loop-page.invariant.goes_on c.in_ok-place_page.ensures.goes_on;
    }
