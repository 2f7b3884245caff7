use Rattle.kernel_record_facts.proofs.Telling.{told}
use Rattle.kernel_record_facts.proofs.told_record_law.Goals as goal

pub returns : goal.returns
returns c s image held w cell k = told s image held w cell k
