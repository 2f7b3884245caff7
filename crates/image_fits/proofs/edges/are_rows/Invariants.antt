use Rattle.std.proofs.Common.{◌<◌, ℕ}
use Rattle.data_atlas.specs.data_atlas_facts.Directory.{edges_of}
use Rattle.model_circles.specs.Containers.{IsAmongContainers}
use Rattle.image_fits.specs.Chosen.{entity_at}
use Rattle.image_fit_facts.specs.Edges.{IsRow}
use Rattle.image_fits.specs.Edges.{regions_in}
use Rattle.image_fits.proofs.edges.are_rows.Given as goal

abbrev pub invariant-loop-number : goal.invariant-loop-number
invariant-loop-number l = record {
  rows : (x : ℕ) → x < l.number → IsRow (edges_of l.atlas) x (regions_in (entity_at l.entities x));
  inside : 0 < l.number → IsAmongContainers (edges_of l.atlas);
}
