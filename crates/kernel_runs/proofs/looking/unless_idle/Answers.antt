use Rattle.std.proofs.Common.{sym}
use Rattle.kernel_run_facts.proofs.Caused.{past_other}
use Rattle.kernel_runs.proofs.looking.unless_idle.Goals as goal

pub returns-in_default : goal.returns-in_default
returns-in_default c = sym (past_other c.args.stop c.in_default.not-Idle)
