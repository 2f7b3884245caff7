use Rattle.std.proofs.Common.{arith}
use Rattle.thread_history.proofs.Splitting.{splits}
use Rattle.thread_history.proofs.seats.cut_note.Goals as goal

pub split_seat-requires : goal.split_seat-requires
split_seat-requires g c = (c.requires.0, omega (arith, c.requires.1), splits g.T.Item.concerns _ _ _)
