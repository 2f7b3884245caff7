use Rattle.kernel_invariant.proofs.Staying.{records_stay, stores_stay}
use Rattle.kernel_invariant.proofs.records_stay_law.Goals as goal

pub returns-clause-records : goal.returns-clause-records
returns-clause-records c b es fs cs ks legal a = records_stay b es fs legal cs ks a

pub returns-clause-stored : goal.returns-clause-stored
returns-clause-stored c b es fs count cs image legal a = stores_stay b es fs legal count cs image a
