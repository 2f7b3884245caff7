use Rattle.std.proofs.Common.{◌<◌, take}
use Rattle.std.specs.Prelude.{All}
use Rattle.base_types.specs.declared.capabilities.Region.{Region}
use Rattle.test_acts.proofs.edges.targets_are_entities.Given as goal

abbrev pub invariant-loop-place : goal.invariant-loop-place
invariant-loop-place l = All (λ (r : Region). r.target < 64) (take l.place l.regions)
