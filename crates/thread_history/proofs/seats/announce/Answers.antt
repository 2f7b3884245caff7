use Rattle.std.proofs.Common.{arith}
use Rattle.thread_history.proofs.Counting.{announces}
use Rattle.thread_history.proofs.seats.announce.Goals as goal

pub fetch_add-requires : goal.fetch_add-requires
fetch_add-requires g c = (c.requires.seat.0, omega (arith, c.requires.seat.1), announces g.T.Item.concerns _ _ _ c.requires.share.0 _ _ _ _ c.requires.item c.requires.share.1)
