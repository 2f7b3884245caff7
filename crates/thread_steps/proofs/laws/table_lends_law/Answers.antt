use Rattle.thread_steps.proofs.FromTable.{may_step}
use Rattle.thread_steps.proofs.laws.table_lends_law.Goals as goal

pub returns : goal.returns
returns g c s cs d b i r x orderly few clean has from = may_step g.B.PageStore s cs d b i r x orderly has from few clean
