use Rattle.model_sound_cuts.proofs.Cuts.{front_rises, run_rises}
use Rattle.model_sound_cuts.proofs.rising_cut_law.Goals as goal

pub returns-clause-front : goal.returns-clause-front
returns-clause-front c s policy script w es cs more later k is = front_rises s policy script w es k cs more later is

pub returns-clause-run : goal.returns-clause-run
returns-clause-run c s policy script w es fs k = run_rises s policy script w es fs k
