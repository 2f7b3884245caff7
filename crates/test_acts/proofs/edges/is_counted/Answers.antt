use Rattle.std.proofs.Common.{arith, refl}
use Rattle.data_atlas.specs.data_atlas_facts.Directory.{edges_of}
use Rattle.test_acts.proofs.EdgeLemmas.{all_counted}
use Rattle.test_acts.proofs.edges.is_counted.Goals as goal

pub returns : goal.returns
returns c = (
  λ _. all_counted (edges_of c.args.atlas.now) c.args.number c.args.regions.now c.closes_circle-inside.ensures.inside c.targets_are_entities.ensures
      c.loop-target.target
      c.loop-target.invariant
      (let stop = c.loop-target-test.false in omega (arith, stop)),
  λ _. refl,
)
