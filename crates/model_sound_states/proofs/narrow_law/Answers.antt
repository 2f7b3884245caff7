use Rattle.model_sound_states.proofs.Empty.{no_clock_beyond, none_beyond}
use Rattle.model_sound_states.proofs.narrow_law.Goals as goal

pub returns-clause-versions : goal.returns-clause-versions
returns-clause-versions c s w sound x high = none_beyond s w sound x high

pub returns-clause-stamps : goal.returns-clause-stamps
returns-clause-stamps c s w x y sound high = no_clock_beyond s w sound x y high
