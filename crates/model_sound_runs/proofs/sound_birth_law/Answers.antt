use Rattle.model_sound_runs.proofs.Births.{birth_leaves}
use Rattle.model_sound_runs.proofs.sound_birth_law.Goals as goal

pub returns-clause-birth : goal.returns-clause-birth
returns-clause-birth c s script w r rules kinds sound e = (birth_leaves s script w r rules kinds sound e).sound

pub returns-clause-kinds : goal.returns-clause-kinds
returns-clause-kinds c s script w r rules kinds sound e = (birth_leaves s script w r rules kinds sound e).kinds
