use Rattle.std.proofs.Common.{arith}
use Rattle.thread_board.proofs.Counting.{commits}
use Rattle.thread_board.proofs.seats.commit.Goals as goal

pub fetch_add-requires : goal.fetch_add-requires
fetch_add-requires g c = (c.requires.seat.0, omega (arith, c.requires.seat.1), commits g.C.Line.stops _ _ _ _ _ _ c.requires.line c.requires.writer c.requires.goes_on c.requires.few)
