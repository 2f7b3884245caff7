use Rattle.act_atlas_laws.proofs.BirthLaws.{births_same}
use Rattle.act_atlas_laws.proofs.born_containers_are_the_models.Goals as goal

pub returns : goal.returns
returns c = births_same
