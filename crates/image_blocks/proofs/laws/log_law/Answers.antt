use Rattle.image_blocks.proofs.Reading.{log_law}
use Rattle.image_blocks.proofs.laws.log_law.Goals as goal

pub returns : goal.returns
returns c = log_law
