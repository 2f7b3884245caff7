use Rattle.std.proofs.Common.{◌∙◌, arith}
use Rattle.thread_ties.proofs.Giving.{joins}
use Rattle.thread_ties.proofs.seats.take_in.Goals as goal

pub join_seat-requires : goal.join_seat-requires
join_seat-requires g c = (c.requires.seat.0, c.requires.piece.0 ∙ c.requires.seat.0, c.requires.piece.1, omega (arith, c.requires.seat.1), joins _ _ _ _ c.requires.piece.2.0 c.requires.piece.2.1)
