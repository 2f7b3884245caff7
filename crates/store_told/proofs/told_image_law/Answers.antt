use Rattle.store_told.proofs.Telling.{told_meant}
use Rattle.store_told.proofs.told_image_law.Goals as goal

pub returns : goal.returns
returns c = told_meant
