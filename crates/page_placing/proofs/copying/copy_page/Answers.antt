use Rattle.std.proofs.Common.{ℕ, List, refl, slice_index}
use Rattle.std.specs.Prelude.{Ok}
use Rattle.page_placing.specs.Placing.{PlacesOne}
use Rattle.page_placing.specs.Copying.{CopiesOne}
use Rattle.page_placing.proofs.Placed.{goes_failed, goes_further, goes_nowhere, ok_map, read_goes}
use Rattle.page_placing.proofs.Copied.{placed_read}
use Rattle.page_placing.proofs.copying.copy_page.Goals as goal

pub returns-then-block-eq0-clause-copied : goal.returns-then-block-eq0-clause-copied
returns-then-block-eq0-clause-copied g c = record { none = λ is. (refl, refl); one = λ some. absurd (some c.if-block-eq0.true) }

pub returns-then-block-eq0-clause-goes_on : goal.returns-then-block-eq0-clause-goes_on
returns-then-block-eq0-clause-goes_on g c = goes_nowhere g.B.PageStore c.args.store.now (g.met.B.PageStore.stays c.args.store.now)

pub returns-in_err-read_page-clause-goes_on : goal.returns-in_err-read_page-clause-goes_on
returns-in_err-read_page-clause-goes_on g c = goes_failed g.B.PageStore {T = Unit {0}} c.args.store.now c.read_page.new.self c.in_err-read_page.field-0.0 _ c.from_residual.ensures.0
    (read_goes g.B.PageStore c.args.store.now c.read_page.new.self _ c.in_err-read_page.ensures.between c.in_err-read_page.ensures.kept c.in_err-read_page.ensures.cause c.in_err-read_page.ensures.fault)

pub returns-clause-copied : goal.returns-clause-copied
returns-clause-copied g c =
    let from : List ℕ = c.args.from.now.0 in
    let page : ℕ = c.args.page in
    let read = c.in_ok-read_page.ensures in
    let placed : Type 0 = PlacesOne g.B.PageStore page c.read_page.new.out c.args.table.now.0 c.place_page.new.table.0 c.read_page.new.self c.place_page.new.store in
    ok_map placed (CopiesOne g.B.PageStore from page c.args.table.now.0 c.place_page.new.table.0 c.args.store.now c.place_page.new.store) (λ one. record {
      none = λ is. absurd (c.if-block-eq0.false is);
      one = λ some. placed_read g.B.PageStore from page (g.B.PageStore.words c.args.store.now (slice_index from page)) c.read_page.new.out c.args.table.now.0 c.place_page.new.table.0 c.args.store.now c.read_page.new.self c.place_page.new.store
          (record { held = read.same_blocks.same_held; kept = read.kept; free = read.same_blocks.same_free; words = λ t n used. read.same_words t n used (λ no. no) }) read.words one;
    }) c.place_page.result c.place_page.ensures.placed

pub returns-clause-goes_on : goal.returns-clause-goes_on
returns-clause-goes_on g c =
    let read = c.in_ok-read_page.ensures in
    goes_further g.B.PageStore g.met.B.PageStore.goes_on c.args.store.now c.read_page.new.self c.place_page.new.store (tt {0}) c.place_page.result
    (read_goes g.B.PageStore c.args.store.now c.read_page.new.self (Ok (tt {0})) read.between read.kept read.cause tt) c.place_page.ensures.goes_on
