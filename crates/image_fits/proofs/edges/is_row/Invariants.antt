use Rattle.std.proofs.Common.{◌≡◌, ◌<◌, ℕ}
use Rattle.std.specs.Prelude.{slice_index}
use Rattle.data_atlas.specs.data_atlas_facts.Directory.{edges_of}
use Rattle.model_circles.specs.Containers.{IsAmongContainers}
use Rattle.image_fits.proofs.edges.is_row.Given as goal

abbrev pub invariant-loop-to : goal.invariant-loop-to
invariant-loop-to l = record {
  row : (y : ℕ) → y < l.to → edges_of l.atlas l.from y ≡ slice_index l.counts y;
  inside : 0 < l.to → IsAmongContainers (edges_of l.atlas);
}
