use Rattle.model_sound_cuts.proofs.Cuts.{part_stays, state_stays}
use Rattle.model_sound_cuts.proofs.cut_stays_law.Goals as goal

pub returns-clause-part : goal.returns-clause-part
returns-clause-part c = part_stays

pub returns-clause-state : goal.returns-clause-state
returns-clause-state c = state_stays
