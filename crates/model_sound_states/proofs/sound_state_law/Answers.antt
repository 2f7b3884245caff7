use Rattle.model_sound_states.proofs.States.{birth_state, part_state, run_state, step_state}
use Rattle.model_sound_states.proofs.sound_state_law.Goals as goal

pub returns-clause-step : goal.returns-clause-step
returns-clause-step c s me w r sound is = step_state s me w r sound is

pub returns-clause-birth : goal.returns-clause-birth
returns-clause-birth c s script w r rules names sound is = birth_state s script rules w r names sound is

pub returns-clause-run : goal.returns-clause-run
returns-clause-run c s policy script w es rules names sound legal = run_state s script rules policy w es (sound, names) legal

pub returns-clause-part : goal.returns-clause-part
returns-clause-part c s policy script w es p rules names sound legal = part_state s script rules policy w es p (sound, names) legal
