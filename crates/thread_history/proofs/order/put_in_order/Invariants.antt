use Rattle.std.proofs.Common.{◌≡◌, ◌<◌, ℕ, length, slice_index_or, IsPermutation}
use Rattle.thread_history.proofs.order.put_in_order.Given as goal

abbrev pub invariant-loop-number : goal.invariant-loop-number
invariant-loop-number g l = IsPermutation l.fn.things l.things × (length l.things ≡ length l.fn.things) × ((k : ℕ) (d : g.row.T.Denot) → k < l.number → g.T.Numbered.number (slice_index_or l.things k d) ≡ k)
