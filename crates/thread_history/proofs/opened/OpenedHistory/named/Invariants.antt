use Rattle.std.proofs.Common.{◌≡◌, true, [], vec_capacity, vec_len}
use Rattle.thread_history.specs.Seats.{IsAt, IsChronicle}
use Rattle.thread_history.specs.Sides.{sides_upto}
use Rattle.thread_history.proofs.opened.OpenedHistory.named.Given as goal

abbrev pub invariant-loop-number : goal.invariant-loop-number
invariant-loop-number g l = IsAt l.table l.seat × (l.seat.me.1 ≡ []) × IsChronicle g.T.Item.concerns l.seat.me.0 × (l.seat.me.0.since ≡ []) × (l.seat.me.0.enrols ≡ true) × (l.seat.me.0.shares ≡ l.number) × (l.shares.items ≡ sides_upto l.number) × (vec_len l.shares ≡ l.number) × (vec_capacity l.shares ≡ 64)
