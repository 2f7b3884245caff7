use Rattle.image_facts.proofs.Fits.{fitting_law}
use Rattle.image_blocks.proofs.laws.fitting_law.Goals as goal

pub returns : goal.returns
returns c = fitting_law
