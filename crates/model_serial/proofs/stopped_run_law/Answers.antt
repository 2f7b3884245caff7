use Rattle.model_births.proofs.Ends.{all_births_done}
use Rattle.model_serial.proofs.Histories.{stopped_legal}
use Rattle.model_serial.proofs.stopped_run_law.Goals as goal

pub returns : goal.returns
returns c = λ s policy script w es rules fits sound stopped. stopped_legal s policy script w rules fits.kinds.containers sound (all_births_done s script rules w sound fits) es stopped
