use Rattle.image_blocks.proofs.Rest.{records_rest_law}
use Rattle.image_blocks.proofs.laws.records_rest_law.Goals as goal

pub returns : goal.returns
returns c = records_rest_law
