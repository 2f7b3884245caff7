use Rattle.std.proofs.Common.{◌≡◌, ℕ, ◌<◌, ◌==◌}
use Rattle.std.specs.Prelude.{count_by}
use Rattle.data_atlas.specs.data_atlas_facts.Directory.{edges_of}
use Rattle.test_acts.proofs.edges.is_counted.Given as goal

abbrev pub invariant-loop-target : goal.invariant-loop-target
invariant-loop-target l = (y : ℕ) → y < l.target → edges_of l.atlas l.number y ≡ count_by (λ r. r.target == y) l.regions
