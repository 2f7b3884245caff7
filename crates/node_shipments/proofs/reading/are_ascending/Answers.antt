use Rattle.std.proofs.Common.{◌+◌, List, [], get_or, take, sym, subst}
use Rattle.std.proofs.lemmas.List.{take_all, take_more}
use Rattle.node_shipments.proofs.Spelling.{AreBelow, ascending_more, below_more}
use Rattle.node_shipments.specs.node_store.page_placing.Writing.{AreAscending}
use Rattle.node_shipments.specs.node_store.page_placing.declared.writing.PageWords.{PageWords}
use Rattle.node_shipments.proofs.reading.are_ascending.Goals as goal

pub loop-page-preserved : goal.loop-page-preserved
loop-page-preserved c =
    let next = take_more c.args.pages.now c.loop-page.page-index (record { page = 0; words = [] }) c.loop-page-test.true in
    let q : PageWords = get_or c.args.pages.now c.loop-page.page-index (record { page = 0; words = [] }) in
    record {
      ascending = subst AreAscending (sym next) (ascending_more (take c.loop-page.page-index c.args.pages.now) q c.loop-page.least c.from-number.result c.args.size c.from-number.ensures c.if-number-least.false c.if-size-number.false c.loop-page.invariant.ascending c.loop-page.invariant.below);
      below = subst (λ (ps : List PageWords). AreBelow ps (c.from-number.result + 1) c.args.size) (sym next) (below_more (take c.loop-page.page-index c.args.pages.now) q c.loop-page.least c.from-number.result c.args.size c.from-number.ensures c.if-number-least.false c.if-size-number.false c.loop-page.invariant.below);
    }

pub returns-clause-ascending : goal.returns-clause-ascending
returns-clause-ascending c _ = subst AreAscending (take_all c.loop-page.page-index c.args.pages.now c.loop-page-test.false) c.loop-page.invariant.ascending

pub returns-clause-within : goal.returns-clause-within
returns-clause-within c _ k q at = (subst (λ (ps : List PageWords). AreBelow ps c.loop-page.least c.args.size) (take_all c.loop-page.page-index c.args.pages.now c.loop-page-test.false) c.loop-page.invariant.below k q at).1
