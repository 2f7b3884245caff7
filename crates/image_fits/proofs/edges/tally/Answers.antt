use Rattle.std.proofs.Common.{◌≡◌, ◌+◌, ◌<◌, ◌≤◌, refl, sym, ◌∙◌, subst, arith, length, length-set, get_or, set, take}
use Rattle.std.proofs.lemmas.List.{length-take}
use Rattle.std.proofs.lemmas.List.Sums.{count_by-le-length}
use Rattle.std.specs.Prelude.{◌==◌}
use Rattle.base_types.specs.declared.capabilities.Region.{Region}
use Rattle.image_fit_facts.specs.Edges.{IsTally, count_onto}
use Rattle.image_fit_facts.proofs.Tallies.{tally_more}
use Rattle.image_fits.proofs.edges.tally.Goals as goal
use Rattle.data_atlas.proofs.data_atlas_facts_lemmas.Naming.{zeros}

pub overflow_add-counts : goal.overflow_add-counts
overflow_add-counts c =
    let t = c.number-target.result in
    let front = take c.loop-region.region-index c.args.regions.now in
    let is : get_or c.loop-region.counts t 0 ≡ count_onto front t = c.loop-region.invariant.counts t in
    let few : count_onto front t ≤ length front = count_by-le-length (λ (r : Region). r.target == t) front in
    let short = length-take c.loop-region.region-index c.args.regions.now in
    omega (arith, is, few, short)

pub loop-region-init : goal.loop-region-init
loop-region-init c = record { counts = λ y. zeros 64 y; all = refl }

pub loop-region-preserved : goal.loop-region-preserved
loop-region-preserved c =
    let counts = c.loop-region.counts in
    let r = c.region-item.result in
    let is = c.number-target.ensures.number in
    let within : r.target < length counts = let small = c.number-target.ensures.small in let long = c.loop-region.invariant.all in omega (arith, small, long, is) in
    record {
      counts = subst (λ n. IsTally (set counts n (get_or counts n 0 + 1)) (take (c.loop-region.region-index + 1) c.args.regions.now)) (sym is)
          (tally_more counts c.args.regions.now c.loop-region.region-index r c.loop-region-test.true c.region-item.is within c.loop-region.invariant.counts);
      all = length-set counts c.number-target.result (get_or counts c.number-target.result 0 + 1) ∙ c.loop-region.invariant.all;
    }
