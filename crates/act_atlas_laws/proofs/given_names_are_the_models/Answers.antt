use Rattle.act_atlas_laws.proofs.NameLaws.{given_names_same}
use Rattle.act_atlas_laws.proofs.given_names_are_the_models.Goals as goal

pub returns : goal.returns
returns c = given_names_same
