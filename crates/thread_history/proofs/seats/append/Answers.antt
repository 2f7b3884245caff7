use Rattle.std.proofs.Common.{arith}
use Rattle.thread_history.proofs.Counting.{appends}
use Rattle.thread_history.proofs.seats.append.Goals as goal

pub fetch_add-requires : goal.fetch_add-requires
fetch_add-requires g c = (c.requires.seat.0, omega (arith, c.requires.seat.1), appends g.T.Item.concerns _ _ _ _ _ _ _ c.requires.item c.requires.chronicler c.requires.room c.requires.told)
