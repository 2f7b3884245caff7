use Rattle.std.proofs.Common.{arith}
use Rattle.thread_history.proofs.Counting.{enrols}
use Rattle.thread_history.proofs.seats.enrol.Goals as goal

pub fetch_add-requires : goal.fetch_add-requires
fetch_add-requires g c = (c.requires.seat.0, omega (arith, c.requires.seat.1), enrols g.T.Item.concerns _ _ _ _ _ c.requires.note c.requires.right.0 c.requires.right.1)
