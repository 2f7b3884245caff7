use Rattle.std.proofs.Common.{◌≡◌, ◌<◌, ℕ, true}
use Rattle.data_atlas.specs.data_atlas_facts.Directory.{edges_of}
use Rattle.model_circles.specs.Marks.{is_marked}
use Rattle.model_circles.specs.Containers.{IsAmongContainers}
use Rattle.image_fits.proofs.circles.shows_unmarked.Given as goal

abbrev pub invariant-loop-other : goal.invariant-loop-other
invariant-loop-other l = record {
  none : (y : ℕ) → y < l.other → 0 < edges_of l.atlas l.container y → is_marked l.marks y ≡ true;
  inside : 0 < l.other → IsAmongContainers (edges_of l.atlas);
}
