use Rattle.model_circles.proofs.Circles.{circle_found}
use Rattle.model_circles.proofs.circle_law.Goals as goal

pub returns : goal.returns
returns c edges from to n among large = circle_found edges from to n among large
