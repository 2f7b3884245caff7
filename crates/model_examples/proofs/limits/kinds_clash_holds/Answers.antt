use Rattle.model_examples.proofs.Clash.{allowed_clash, b_is, not_sound, sound_before}
use Rattle.model_examples.proofs.limits.kinds_clash_holds.Goals as goal

pub returns-clause-allowed : goal.returns-clause-allowed
returns-clause-allowed c = allowed_clash

pub returns-clause-sound : goal.returns-clause-sound
returns-clause-sound c = sound_before

pub returns-clause-born : goal.returns-clause-born
returns-clause-born c = b_is

pub returns-clause-unsound : goal.returns-clause-unsound
returns-clause-unsound c = not_sound
