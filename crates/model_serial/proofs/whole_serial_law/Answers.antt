use Rattle.model_births.proofs.Ends.{all_births_done}
use Rattle.model_serial.proofs.Rounds.{whole_exists}
use Rattle.model_serial.proofs.whole_serial_law.Goals as goal

pub returns : goal.returns
returns c = λ s policy script w rules fits sound. whole_exists s policy script w rules fits.kinds.containers sound (all_births_done s script rules w sound fits)
