use Rattle.std.proofs.Common.{◌≡◌, ◌<◌, ℕ, false}
use Rattle.data_atlas.specs.data_atlas_facts.Directory.{edges_of}
use Rattle.model_circles.specs.Marks.{is_marked}
use Rattle.model_circles.specs.Containers.{IsAmongContainers}
use Rattle.image_fit_facts.specs.Circles.{ShowsUnmarked}
use Rattle.image_fits.proofs.circles.next_leaf.Given as goal

abbrev pub invariant-loop-container : goal.invariant-loop-container
invariant-loop-container l = record {
  none : (x : ℕ) → x < l.container → is_marked l.marks x ≡ false → ShowsUnmarked (edges_of l.atlas) l.marks x;
  inside : 0 < l.container → IsAmongContainers (edges_of l.atlas);
}
