use Rattle.std.proofs.Common.{arith}
use Rattle.thread_board.proofs.Splitting.{splits}
use Rattle.thread_board.proofs.seats.cut_note.Goals as goal

pub split_seat-requires : goal.split_seat-requires
split_seat-requires g c = (c.requires.0, omega (arith, c.requires.1), splits g.C.Line.stops _ _)
