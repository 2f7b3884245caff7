use Rattle.image_meaning.proofs.Meaning.{meaning_law}
use Rattle.image_meaning.proofs.stored_meaning_law.Goals as goal

pub returns : goal.returns
returns c = meaning_law
