use Rattle.std.proofs.Common.{◌≡◌, ◌+◌, true, [], ◌++◌, length, map, vec_capacity, vec_len}
use Rattle.thread_ties.specs.Rules.{shown}
use Rattle.thread_ties.specs.Seats.{IsAt}
use Rattle.thread_ties.specs.Sides.{fragments_of}
use Rattle.thread_ties.proofs.opened.Opened.named.Given as goal

abbrev pub invariant-loop : goal.invariant-loop
invariant-loop g l = IsAt l.table l.seat × (l.table.shared.table_id ≡ g.B.Bond.values_table) × (l.seat.me.1 ≡ []) × (l.seat.me.0.leads ≡ true) × (l.seat.me.0.values ≡ g.B.Bond.first_values)
    × (l.fragments.items ++ map shown l.seat.me.0.pieces ≡ fragments_of g.B.Bond.first_values) × (length l.seat.me.0.pieces + l.counter ≡ l.count) × (vec_len l.fragments ≡ l.counter) × (vec_capacity l.fragments ≡ l.count)
