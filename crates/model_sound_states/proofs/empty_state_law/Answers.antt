use Rattle.model_sound_states.proofs.Empty.{empty_is_sound, empty_names}
use Rattle.model_sound_states.proofs.empty_state_law.Goals as goal

pub returns-clause-sound : goal.returns-clause-sound
returns-clause-sound c s = empty_is_sound s

pub returns-clause-names : goal.returns-clause-names
returns-clause-names c script = empty_names script.containers
