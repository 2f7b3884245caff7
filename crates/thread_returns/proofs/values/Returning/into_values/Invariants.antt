use Rattle.std.proofs.Common.{◌≡◌, ◌≤◌, ◌<◌, ℕ, Some, length, slice_get, take}
use Rattle.std.specs.Prelude.{vec_len, vec_capacity}
use Rattle.thread_returns.proofs.values.Returning.into_values.Given as goal

-- the values so far stand in order, and each other at its place
abbrev pub invariant-loop-number : goal.invariant-loop-number
invariant-loop-number g l = record {
  stand : (k : ℕ) → l.number ≤ k → k < length l.fn.self.values → slice_get l.places.items k ≡ Some (slice_get l.fn.self.values k);
  values : l.values.items ≡ take l.number l.fn.self.values;
  last : l.number-end ≡ length l.fn.self.values;
  places : vec_len l.places ≡ length l.fn.self.values;
  len : vec_len l.values ≡ l.number;
  room : length l.fn.self.values ≤ vec_capacity l.values;
}
