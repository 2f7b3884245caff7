use Rattle.std.proofs.Common.{arith}
use Rattle.thread_board.proofs.Splitting.{looks}
use Rattle.thread_board.proofs.seats.look.Goals as goal

pub load-requires : goal.load-requires
load-requires g c = (c.requires.seat.0, omega (arith, c.requires.seat.1, c.requires.word), looks g.C.Line.stops _ _ _ _ _)
