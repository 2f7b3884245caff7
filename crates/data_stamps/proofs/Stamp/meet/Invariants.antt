use Rattle.std.proofs.Common.{◌≡◌, ℕ, ◌<◌, ◌≤◌, max, slice_index}
use Rattle.data_stamps.proofs.Stamp.meet.Given as goal

-- the components below i are met, and the others are as they were
abbrev pub invariant-loop-i : goal.invariant-loop-i
invariant-loop-i l = record {
  met : (k : ℕ) → k < l.i → slice_index l.mine-items k ≡ max (slice_index l.fn.self.0 k) (slice_index l.other.0 k);
  rest : (k : ℕ) → l.i ≤ k → slice_index l.mine-items k ≡ slice_index l.fn.self.0 k;
}
