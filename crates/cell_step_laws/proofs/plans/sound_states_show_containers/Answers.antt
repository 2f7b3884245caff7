use Rattle.cell_step_laws.proofs.SoundParts.{look_part}
use Rattle.cell_step_laws.proofs.SoundPlans.{look_here}
use Rattle.cell_step_laws.proofs.plans.sound_states_show_containers.Goals as goal

pub returns-clause-born : goal.returns-clause-born
returns-clause-born c a cells me x l sound is wants = look_here a cells me l sound is x wants

pub returns-clause-part : goal.returns-clause-part
returns-clause-part c = look_part
