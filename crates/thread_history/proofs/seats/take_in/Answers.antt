use Rattle.std.proofs.Common.{◌∙◌, arith}
use Rattle.thread_history.proofs.Joining.{joins}
use Rattle.thread_history.proofs.seats.take_in.Goals as goal

pub join_seat-requires : goal.join_seat-requires
join_seat-requires g c = (c.requires.seat.0, c.requires.note.0 ∙ c.requires.seat.0, c.requires.note.1, omega (arith, c.requires.seat.1), joins g.T.Item.concerns _ _ _ _ _ c.requires.taken)
