use Rattle.cell_step_laws.proofs.SoundPlans.{fits_here}
use Rattle.cell_step_laws.proofs.plans.sound_states_fit_calls.Goals as goal

pub returns : goal.returns
returns c s words a cells me x l i p sound is call there = fits_here a cells me l sound is s words i x p call there
