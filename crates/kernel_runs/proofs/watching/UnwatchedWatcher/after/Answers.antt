use Rattle.kernel_run_facts.proofs.Watched.{lent_same}
use Rattle.kernel_runs.proofs.watching.UnwatchedWatcher.after.Goals as goal

pub returns-clause-lent : goal.returns-clause-lent
returns-clause-lent g c = lent_same g.D.Disk c.args._kernel.now c.requires.going
