use Rattle.node_commits.proofs.Standing.{standby_image}
use Rattle.node_commits.proofs.standby_image_law.Goals as goal

pub returns : goal.returns
returns c = standby_image
