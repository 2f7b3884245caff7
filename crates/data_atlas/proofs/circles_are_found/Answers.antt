use Rattle.data_atlas_facts.proofs.model_circles_lemmas.Circles.{circle_found}
use Rattle.data_atlas.proofs.circles_are_found.Goals as goal

pub returns : goal.returns
returns c = circle_found
