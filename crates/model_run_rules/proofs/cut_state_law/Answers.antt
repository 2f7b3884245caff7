use Rattle.model_run_rules.proofs.CutStates.{cut_part, cut_stamp, cut_version}
use Rattle.model_run_rules.proofs.cut_state_law.Goals as goal

pub returns-clause-part : goal.returns-clause-part
returns-clause-part c s policy script w es cs later q legal first g = cut_part s policy script w es legal cs later q first g

pub returns-clause-versions : goal.returns-clause-versions
returns-clause-versions c s policy script w es cs later q x legal below first g = cut_version s policy script w es legal cs later q first g below x

pub returns-clause-stamps : goal.returns-clause-stamps
returns-clause-stamps c s policy script w es cs later q x y legal below first g = cut_stamp s policy script w es legal cs later q first g below x y
