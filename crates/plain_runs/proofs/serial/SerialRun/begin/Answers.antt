use Rattle.plain_runs.proofs.Placing.{begin_stands}
use Rattle.plain_runs.proofs.serial.SerialRun.begin.Goals as goal

pub returns-clause-stands : goal.returns-clause-stands
returns-clause-stands c s script w h = begin_stands s script w c.args.state c.args.versions h
