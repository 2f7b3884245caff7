use Rattle.image_facts.proofs.Worked.{worked_blocks}
use Rattle.image_blocks.proofs.laws.examples_hold.Goals as goal

pub returns : goal.returns
returns c = worked_blocks
