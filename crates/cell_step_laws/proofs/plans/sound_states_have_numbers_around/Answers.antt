use Rattle.cell_step_laws.proofs.SoundPlans.{around_container, around_locus}
use Rattle.cell_step_laws.proofs.plans.sound_states_have_numbers_around.Goals as goal

pub returns-clause-container : goal.returns-clause-container
returns-clause-container c a cells me l sound is = around_container a cells me l sound is

pub returns-clause-locus : goal.returns-clause-locus
returns-clause-locus c a cells me l sound is = around_locus a cells me l sound is
