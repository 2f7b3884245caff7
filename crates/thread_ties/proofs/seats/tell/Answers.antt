use Rattle.std.proofs.Common.{arith}
use Rattle.thread_ties.proofs.Giving.{tells}
use Rattle.thread_ties.proofs.seats.tell.Goals as goal

pub load-requires : goal.load-requires
load-requires g c = (c.requires.seat.0, omega (arith, c.requires.seat.1), tells _ _ _ _ _ _ c.requires.authority c.requires.value)
