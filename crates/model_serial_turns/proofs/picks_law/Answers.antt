use Rattle.model_serial_turns.proofs.Picks.{pick_now}
use Rattle.model_serial_turns.proofs.picks_law.Goals as goal

pub returns : goal.returns
returns c s policy script w ls es i name rules fits sound h here = pick_now s policy script w rules fits sound ls es i name h here
