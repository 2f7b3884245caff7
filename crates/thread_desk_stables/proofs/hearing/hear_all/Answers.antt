use Rattle.std.proofs.Common.{◌≡◌, ◌+◌, map, get_or, refl, sym, ap, subst, ◌∙◌, arith}
use Rattle.std.specs.Sync.Mutex.{mutex_guard_value}
use Rattle.thread_desk_looks.specs.thread_desk.Sights.{AreKnown}
use Rattle.thread_desk_stables.specs.Rows.{keeping_of}
use Rattle.thread_desk_stables.proofs.Heard.{HeardBelow, all_heard, heard_back}
use Rattle.thread_stables.specs.thread_settling.Rows.{IsRow}
use Rattle.thread_stables.proofs.thread_settling_lemmas.Lent.{has_number, lent_here, row_back}
use Rattle.thread_desk_stables.proofs.hearing.hear_all.Goals as goal

pub loop-i-init : goal.loop-i-init
loop-i-init g c = record { all = refl; annals = refl; row = c.requires.row; heard = λ i k is lt. absurd (omega (arith, lt)) }

pub hear_one-requires : goal.hear_one-requires
hear_one-requires g c = record {
  known = subst (λ cs. AreKnown g.D.Disk g.B.Board.terms.told g.B.Board.begin g.B.Run.kept c.args.store.now cs c.loop-i.annals) (sym c.loop-i.invariant.all)
      (subst (AreKnown g.D.Disk g.B.Board.terms.told g.B.Board.begin g.B.Run.kept c.args.store.now c.args.all.now) (sym c.loop-i.invariant.annals) c.requires.known);
}

pub loop-i-preserved : goal.loop-i-preserved
loop-i-preserved g c =
    let i = c.loop-i.i in
    let k = keeping_of c.deref_mut-cell.result.now in
    let ks = map (λ it. keeping_of (mutex_guard_value it)) c.loop-i.cells in
    let again = lent_here (λ it. keeping_of (mutex_guard_value it)) c.loop-i.cells i (get_or c.loop-i.cells i c.index-cells-i.result) k (ap keeping_of c.deref_mut-cell.ensures.value) (ap (get_or c.loop-i.cells i) c.index-cells-i.is) in
    let number = has_number ks i k c.loop-i.invariant.row (omega arith) again in
    let h = c.hear_one.ensures in
    record {
      all = h.same.0 ∙ c.loop-i.invariant.all;
      annals = h.same.1 ∙ c.loop-i.invariant.annals;
      row = row_back (λ it. keeping_of (mutex_guard_value it)) c.loop-i.cells i _ (keeping_of c.hear_one.new.cell) refl c.loop-i.invariant.row (h.cell.0 ∙ number);
      heard = heard_back (λ it. keeping_of (mutex_guard_value it)) c.args.annals.now c.loop-i.cells i _ c.loop-i.invariant.heard (h.cell.1 ∙ c.loop-i.invariant.annals);
    }

pub returns-clause-heard : goal.returns-clause-heard
returns-clause-heard g c =
    let done : c.loop-i.i ≡ 64 = (let f = c.loop-i-test.false in let e = c.loop-i.auto.i-end in omega (arith, f, e)) in
    all_heard c.args.annals.now (map (λ it. keeping_of (mutex_guard_value it)) c.loop-i.cells) c.loop-i.i c.loop-i.invariant.row c.loop-i.invariant.heard done
