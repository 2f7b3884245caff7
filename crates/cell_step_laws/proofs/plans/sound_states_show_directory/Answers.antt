use Rattle.cell_step_laws.proofs.SoundParts.{directory_part}
use Rattle.cell_step_laws.proofs.plans.sound_states_show_directory.Goals as goal

pub returns : goal.returns
returns c = directory_part
