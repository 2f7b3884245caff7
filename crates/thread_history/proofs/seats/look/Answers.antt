use Rattle.std.proofs.Common.{arith}
use Rattle.thread_history.proofs.Splitting.{looks}
use Rattle.thread_history.proofs.seats.look.Goals as goal

pub load-requires : goal.load-requires
load-requires g c = (c.requires.0, omega (arith, c.requires.1), looks g.T.Item.concerns _ _ _ _ _ _)
