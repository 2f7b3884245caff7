use Rattle.open_facts.proofs.Moments.{keeping_law}
use Rattle.open_image.proofs.laws.keeping_law.Goals as goal

pub returns : goal.returns
returns c = keeping_law
