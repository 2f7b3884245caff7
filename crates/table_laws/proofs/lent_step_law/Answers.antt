use Rattle.table_laws.proofs.Quiet.{steps_quietly}
use Rattle.table_laws.proofs.lent_step_law.Goals as goal

pub returns : goal.returns
returns c me cs cs' old new e steps lends few numbers pairs = steps_quietly me cs cs' old new e steps lends numbers few pairs
