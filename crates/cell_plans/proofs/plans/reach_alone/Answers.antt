use Rattle.std.proofs.Common.{ap, ◌∙◌}
use Rattle.cell_calls.specs.act_calls.Calls.{is_make, is_spawn}
use Rattle.cell_plans.proofs.Planned.{alone_by}
use Rattle.cell_plans.proofs.plans.reach_alone.Goals as goal

pub returns-in-Make : goal.returns-in-Make
returns-in-Make c l own none = record { instr = ap is_make (none.instr ∙ c.in-Make.is); allowed = none.allowed }

pub returns-in-Spawn : goal.returns-in-Spawn
returns-in-Spawn c l own none = record { instr = ap is_spawn (none.instr ∙ c.in-Spawn.is); allowed = none.allowed }

pub returns-in_default : goal.returns-in_default
returns-in_default c l own none = record { wants = own; alone = alone_by c.args.me l c.args.act.instr none c.in_default.not-Make c.in_default.not-Spawn }
