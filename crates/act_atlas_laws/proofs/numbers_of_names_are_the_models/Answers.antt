use Rattle.act_atlas_laws.proofs.NameLaws.{numbers_same}
use Rattle.act_atlas_laws.proofs.numbers_of_names_are_the_models.Goals as goal

pub returns : goal.returns
returns c = numbers_same
