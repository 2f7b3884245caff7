use Rattle.std.proofs.Common.{◌≡◌, length}
use Rattle.model_circles.proofs.Marks.{unmarked}
use Rattle.data_atlas.specs.data_atlas_facts.Directory.{edges_of}
use Rattle.image_fit_facts.proofs.Circling.{AreFree}
use Rattle.image_fits.proofs.circles.has_no_circle.Given as goal

abbrev pub invariant-loop-container : goal.invariant-loop-container
invariant-loop-container l = record {
  all : length l.marks ≡ 41;
  free : AreFree (edges_of l.atlas) l.marks;
}

abbrev pub decreases-loop-container : goal.decreases-loop-container
decreases-loop-container l = unmarked l.marks
