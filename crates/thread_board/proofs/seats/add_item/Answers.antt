use Rattle.std.proofs.Common.{arith}
use Rattle.thread_board.proofs.Counting.{adds_item}
use Rattle.thread_board.proofs.seats.add_item.Goals as goal

pub fetch_add-requires : goal.fetch_add-requires
fetch_add-requires g c = (c.requires.seat.0, omega (arith, c.requires.seat.1), adds_item g.C.Line.stops _ _ _ _ _ _ c.requires.item c.requires.writer c.requires.few)
