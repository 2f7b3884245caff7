use Rattle.std.proofs.Common.{◌≡◌, suc, ◌+◌, ◌++◌, List, ap, sym, ◌∙◌, arith}
use Rattle.std.specs.Prelude.{slice_index}
use Rattle.base_types.specs.Edges.{upto}
use Rattle.base_types.specs.declared.records.Rec.{Rec}
use Rattle.store_facts.specs.Choosing.{chosen_list, listed}
use Rattle.store_facts.proofs.Chosen.{chosen_more}
use Rattle.store_snapshots.proofs.choosing.chosen_recs.Goals as goal

pub loop-x-preserved : goal.loop-x-preserved
loop-x-preserved c =
    let so_far = c.loop-x.invariant in
    let next : c.loop-x.x + 1 ≡ suc c.loop-x.x = omega arith in
    record {
      few = (let before = so_far.few in let more = c.put_chosen-used.ensures.few in omega (arith, before, more));
      taken =
          c.put_chosen-used.ensures.put
          ∙ (ap (λ (l : List Rec). l ++ listed c.chosen_one.result) so_far.taken
          ∙ (ap (λ o. chosen_list (slice_index c.args.cut.now.0) c.args.recs.now (upto c.loop-x.x) ++ listed o) c.chosen_one.ensures
          ∙ (sym (chosen_more (slice_index c.args.cut.now.0) c.args.recs.now c.loop-x.x) ∙ ap (λ n. chosen_list (slice_index c.args.cut.now.0) c.args.recs.now (upto n)) (sym next))));
    }

pub returns-clause-chosen : goal.returns-clause-chosen
returns-clause-chosen c =
    let last : c.loop-x.x ≡ 64 = (let a = c.loop-x-test.false in let b = c.loop-x.auto.x-end in omega (arith, a, b)) in
    c.loop-x.invariant.taken ∙ ap (λ n. chosen_list (slice_index c.args.cut.now.0) c.args.recs.now (upto n)) last
