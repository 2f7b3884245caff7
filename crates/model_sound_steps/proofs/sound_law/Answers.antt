use Rattle.model_sound_steps.proofs.Steps.{step_sound}
use Rattle.model_sound_steps.proofs.sound_law.Goals as goal

pub returns : goal.returns
returns c = record { step = step_sound }
