use Rattle.std.proofs.Common.{arith}
use Rattle.thread_board.proofs.Drawing.{draws}
use Rattle.thread_board.proofs.seats.draw.Goals as goal

pub compare_exchange-requires : goal.compare_exchange-requires
compare_exchange-requires g c = (c.requires.seat.0, omega (arith, c.requires.seat.1), draws g.C.Line.stops _ _ _ _ _ c.requires.note c.requires.few)
