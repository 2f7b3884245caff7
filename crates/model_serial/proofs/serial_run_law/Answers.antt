use Rattle.model_births.proofs.Ends.{all_births_done}
use Rattle.model_serial.proofs.Histories.{serial_leaves}
use Rattle.model_serial.proofs.serial_run_law.Goals as goal

pub returns-clause-legal : goal.returns-clause-legal
returns-clause-legal c = λ s policy script w n rules fits sound. (serial_leaves s policy script w n rules fits.kinds.containers sound (all_births_done s script rules w sound fits)).legal

pub returns-clause-calm : goal.returns-clause-calm
returns-clause-calm c = λ s policy script w n rules fits sound. (serial_leaves s policy script w n rules fits.kinds.containers sound (all_births_done s script rules w sound fits)).calm
