use Rattle.std.proofs.Common.{arith}
use Rattle.thread_ties.proofs.Giving.{starts}
use Rattle.thread_ties.proofs.seats.begin.Goals as goal

pub load-requires : goal.load-requires
load-requires g c = (c.requires.seat.0, omega (arith, c.requires.seat.1), starts _ _ _ _ _ _ c.requires.new)
