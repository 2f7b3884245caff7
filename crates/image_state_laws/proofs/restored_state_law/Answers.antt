use Rattle.image_state_laws.proofs.Meant.{accepted_parts, parts_sound, parts_versions}
use Rattle.image_state_laws.proofs.restored_state_law.Goals as goal

pub returns-clause-sound : goal.returns-clause-sound
returns-clause-sound c = parts_sound

pub returns-clause-versions : goal.returns-clause-versions
returns-clause-versions c = parts_versions

pub returns-clause-accepted : goal.returns-clause-accepted
returns-clause-accepted c = accepted_parts
