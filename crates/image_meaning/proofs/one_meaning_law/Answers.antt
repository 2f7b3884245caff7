use Rattle.image_meaning.proofs.Ones.{one_meaning}
use Rattle.image_meaning.proofs.one_meaning_law.Goals as goal

pub returns : goal.returns
returns c = one_meaning
