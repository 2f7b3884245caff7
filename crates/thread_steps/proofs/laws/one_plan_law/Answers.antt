use Rattle.thread_steps.proofs.OnePlan.{one_plan}
use Rattle.thread_steps.proofs.laws.one_plan_law.Goals as goal

pub returns : goal.returns
returns c = one_plan
