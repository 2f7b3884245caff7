use Rattle.kernel_laws.proofs.Opening.{opened_records}
use Rattle.kernel_laws.proofs.opened_records_law.Goals as goal

pub returns : goal.returns
returns c b image means bk keeps = opened_records b image means bk keeps
