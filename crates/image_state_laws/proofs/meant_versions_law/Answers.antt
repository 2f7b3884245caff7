use Rattle.image_state_laws.proofs.Meant.{meant_greatest, meant_versions}
use Rattle.image_state_laws.proofs.meant_versions_law.Goals as goal

pub returns-clause-computed : goal.returns-clause-computed
returns-clause-computed c = meant_versions

pub returns-clause-greatest : goal.returns-clause-greatest
returns-clause-greatest c = meant_greatest
