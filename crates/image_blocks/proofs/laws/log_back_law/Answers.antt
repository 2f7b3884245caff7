use Rattle.image_blocks.proofs.Opening.{log_back_law}
use Rattle.image_blocks.proofs.laws.log_back_law.Goals as goal

pub returns : goal.returns
returns c = log_back_law
