use Rattle.image_meaning.proofs.Finding.{not_neither}
use Rattle.image_meaning.proofs.Firsts.{not_both, one_foreign}
use Rattle.image_meaning.proofs.first_bad_place_law.Goals as goal

pub returns-clause-one : goal.returns-clause-one
returns-clause-one c = one_foreign

pub returns-clause-accepted : goal.returns-clause-accepted
returns-clause-accepted c = not_both

pub returns-clause-neither : goal.returns-clause-neither
returns-clause-neither c = not_neither
