use Rattle.model_sound_cuts.proofs.Cuts.{front_greatest, front_one, run_greatest}
use Rattle.model_sound_cuts.proofs.one_greatest_law.Goals as goal

pub returns-clause-exists : goal.returns-clause-exists
returns-clause-exists c s policy script w es cs later k is = front_greatest s policy script w es k cs later is

pub returns-clause-one : goal.returns-clause-one
returns-clause-one c s policy script w es cs later q k is g = front_one s policy script w es k cs later q is g

pub returns-clause-run : goal.returns-clause-run
returns-clause-run c s policy script w es k = run_greatest s policy script w es k
