use Rattle.std.proofs.Common.{ℕ, ◌≡◌, ◌+◌, ◌<◌, ◌≤◌, ◌∙◌, nat_lt, refl, true, false, ap, sym, subst, arith, slice_index}
use Rattle.std.proofs.lemmas.Bool.Decides.{nat_tests}
use Rattle.trace_state.specs.Clocks.{clock_at}
use Rattle.trace_state.specs.declared.cuts.Cuts.{Cuts}
use Rattle.trace_step_facts.specs.Recording.{Appends, IsRecordAt}
use Rattle.trace_step_facts.proofs.Recording.{appends_more, appends_none, appends_skip}
use Rattle.trace_steps.proofs.stables.append_changed.Goals as goal
use Rattle.trace_steps.proofs.stables.append_changed.Goals.{then-newest-x+in_ok-append, else-newest-x}

less : (a b : ℕ) → a < b → nat_lt a b ≡ true
less a b h = grind (arith, nat_tests)

not_less : (a b : ℕ) → b ≤ a → nat_lt a b ≡ false
not_less a b h = grind (arith, nat_tests)

end : (n : ℕ) → n ≤ 64 → 64 ≤ n → n ≡ 64
end n a b = omega arith

pub loop-x-init : goal.loop-x-init
loop-x-init c = record { recs = appends_none c.args.newest.now c.args.versions.now (clock_at c.args.clocks.now) c.args.cuts.now.recs.items; start = refl; cut = refl }

pub loop-x-preserved : goal.loop-x-preserved
loop-x-preserved c =
    let ns = c.args.newest.now in
    let vs = c.args.versions.now in
    let clocks = clock_at c.args.clocks.now in
    let old = c.args.cuts.now.recs.items in
    elim c.if-newest-x.branch [
      | then-newest-x+in_ok-append w ↦ record {
        recs = appends_more ns vs clocks c.loop-x.x old c.loop-x.cuts.recs.items c.if-newest-x.cuts.recs.items w.record_of.result c.loop-x.invariant.recs (less _ _ w.if-newest-x.true)
            (subst (λ n. IsRecordAt (slice_index vs) clocks n w.record_of.result) w.of.ensures w.record_of.ensures)
            (ap (λ (q : Cuts). q.recs.items) w.cuts-is ∙ w.in_ok-append.ensures.recs);
        start = ap (λ (q : Cuts). q.start) w.cuts-is ∙ w.append.ensures.start ∙ c.loop-x.invariant.start;
        cut = ap (λ (q : Cuts). q.cut) w.cuts-is ∙ w.append.ensures.cut ∙ c.loop-x.invariant.cut;
      }
      | else-newest-x w ↦ record {
        recs = subst (λ (q : Cuts). Appends ns vs clocks (c.loop-x.x + 1) old q.recs.items) (sym w.cuts-is) (appends_skip ns vs clocks c.loop-x.x old c.loop-x.cuts.recs.items c.loop-x.invariant.recs (not_less _ _ w.if-newest-x.false));
        start = ap (λ (q : Cuts). q.start) w.cuts-is ∙ c.loop-x.invariant.start;
        cut = ap (λ (q : Cuts). q.cut) w.cuts-is ∙ c.loop-x.invariant.cut;
      }
    ]

pub returns : goal.returns
returns c = record {
  recs = subst (λ n. Appends c.args.newest.now c.args.versions.now (clock_at c.args.clocks.now) n c.args.cuts.now.recs.items c.loop-x.cuts.recs.items) (end c.loop-x.x c.loop-x.auto.x-end c.loop-x-test.false) c.loop-x.invariant.recs;
  start = c.loop-x.invariant.start;
  cut = c.loop-x.invariant.cut;
}
