use Rattle.model_serial_turns.proofs.Stops.{stopped_looks, stopped_opening}
use Rattle.model_serial_turns.proofs.stopped_law.Goals as goal

pub returns-clause-opening : goal.returns-clause-opening
returns-clause-opening c s policy script w part stop = stopped_opening s script policy w part stop

pub returns-clause-looks : goal.returns-clause-looks
returns-clause-looks c s policy script w ls es all part h first stop = stopped_looks s script policy w ls es all part h first stop
