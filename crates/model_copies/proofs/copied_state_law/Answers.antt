use Rattle.model_copies.proofs.Copying.{leaves, sound}
use Rattle.model_copies.proofs.copied_state_law.Goals as goal

pub returns-clause-sound : goal.returns-clause-sound
returns-clause-sound c = sound

pub returns-clause-leaves : goal.returns-clause-leaves
returns-clause-leaves c = leaves
