use Rattle.cell_step_laws.proofs.SoundParts.{unborn_part}
use Rattle.cell_step_laws.proofs.plans.sound_states_leave_next_unborn.Goals as goal

pub returns : goal.returns
returns c = unborn_part
