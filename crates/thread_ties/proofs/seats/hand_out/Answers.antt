use Rattle.std.proofs.Common.{arith}
use Rattle.thread_ties.proofs.Giving.{splits}
use Rattle.thread_ties.proofs.seats.hand_out.Goals as goal

pub split_seat-requires : goal.split_seat-requires
split_seat-requires g c = (c.requires.0, omega (arith, c.requires.1), splits _ _)
