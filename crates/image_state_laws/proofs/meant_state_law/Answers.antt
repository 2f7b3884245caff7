use Rattle.image_state_laws.proofs.Meant.{meant_state}
use Rattle.image_state_laws.proofs.meant_state_law.Goals as goal

pub returns : goal.returns
returns c = meant_state
