use Rattle.node_standby.proofs.Outliving.{outlives}
use Rattle.node_standby.proofs.laws.takeover_law.Goals as goal

pub returns : goal.returns
returns c b es fs gs e k image right legal split is enough = outlives c.stable_stays_law.ensures.versions c.stable_stays_law.ensures.events b es fs gs e k image right legal split is enough
