use Rattle.std.proofs.Common.{◌+◌, ℕ, List, subst, arith, slice_index}
use Rattle.page_placing.proofs.Placed.{goes_failed, goes_further, goes_nowhere, used_then}
use Rattle.page_placing.proofs.Copied.{CopiedBelow, copied_all, copied_more, count_below, count_some, none_copied}
use Rattle.page_placing.proofs.copying.copy_pages.Goals as goal

pub loop-page-init : goal.loop-page-init
loop-page-init g c = record {
  copied = none_copied g.B.PageStore c.args.from.now.0 c.args.table.now.0 c.args.store.now c.requires.empty;
  goes_on = goes_nowhere g.B.PageStore c.args.store.now (g.met.B.PageStore.stays c.args.store.now);
}

pub copy_page-requires : goal.copy_page-requires
copy_page-requires g c =
    let i : ℕ = c.loop-page.page in
    let from : List ℕ = c.args.from.now.0 in
    let w = c.loop-page.invariant.copied in
    record {
      free = λ some.
          let more = count_some from i (let long = c.read_places.ensures in let lt = c.loop-page-test.true in omega (arith, long, lt)) some in
          let within = count_below from (i + 1) in
          let count = w.taken.free_is in
          let enough = c.requires.free in
          omega (arith, more, within, count, enough);
      in_use = λ some. used_then g.B.PageStore c.args.store.now c.loop-page.store w.taken.stays w.taken.same_kept (slice_index from i) (c.requires.in_use i some);
    }

pub returns-in_err-copy_page-clause-goes_on : goal.returns-in_err-copy_page-clause-goes_on
returns-in_err-copy_page-clause-goes_on g c =
    goes_further g.B.PageStore g.met.B.PageStore.goes_on c.args.store.now c.loop-page.store c.copy_page.new.store tt _ c.loop-page.invariant.goes_on
    (goes_failed g.B.PageStore c.loop-page.store c.copy_page.new.store _ _ c.from_residual.ensures.0 c.in_err-copy_page.ensures.goes_on)

pub loop-page-preserved : goal.loop-page-preserved
loop-page-preserved g c = record {
  copied = copied_more g.B.PageStore c.args.from.now.0 c.loop-page.page c.loop-page.table.0 c.copy_page.new.table.0 c.args.store.now c.loop-page.store c.copy_page.new.store c.loop-page.invariant.copied c.in_ok-copy_page.ensures.copied
      c.requires.in_use (let long = c.read_places.ensures in let lt = c.loop-page-test.true in omega (arith, long, lt));
  goes_on = goes_further g.B.PageStore g.met.B.PageStore.goes_on c.args.store.now c.loop-page.store c.copy_page.new.store tt _ c.loop-page.invariant.goes_on c.in_ok-copy_page.ensures.goes_on;
}

pub returns-clause-copied : goal.returns-clause-copied
returns-clause-copied g c = copied_all g.B.PageStore c.args.from.now.0 256 c.loop-page.table.0 c.args.store.now c.loop-page.store c.read_places.ensures (subst (λ (n : ℕ). CopiedBelow g.B.PageStore c.args.from.now.0 n c.loop-page.table.0 c.args.store.now c.loop-page.store) (let past = c.loop-page-test.false in let most = c.loop-page.auto.page-end in omega (arith, past, most)) c.loop-page.invariant.copied)
