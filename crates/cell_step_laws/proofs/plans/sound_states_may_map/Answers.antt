use Rattle.cell_step_laws.proofs.SoundMaps.{map_here}
use Rattle.cell_step_laws.proofs.plans.sound_states_may_map.Goals as goal

pub returns : goal.returns
returns c = map_here
