use Rattle.image_meaning.proofs.Sounding.{sound_meaning}
use Rattle.image_meaning.proofs.sound_meaning_law.Goals as goal

pub returns : goal.returns
returns c = sound_meaning
