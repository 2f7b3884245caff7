use Rattle.model_before.proofs.ClosedParts.{before_within}
use Rattle.model_before.proofs.closed_part_law.Goals as goal

pub returns : goal.returns
returns c s policy script w es p i j cause effect legal closed at there before inside = before_within s policy script w es p i j cause effect legal closed at there before inside
