use Rattle.node_draws.proofs.Tallies.{tally_same}
use Rattle.node_draws.proofs.tally_law.Goals as goal

pub returns : goal.returns
returns g c made w d h some = tally_same w h.acked some d
