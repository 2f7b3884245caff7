-- The touches so far and those that are left join to all.
use Rattle.std.proofs.Common.{◌≡◌, ℕ, max, drop}
use Rattle.data_stamps.specs.Stamps.{component}
use Rattle.trace_state.specs.Clocks.{clock_at, joined_in}
use Rattle.trace_state.proofs.clocks.Clocks.joined.Given as goal

abbrev pub invariant-loop-touch : goal.invariant-loop-touch
invariant-loop-touch l = (y : ℕ) → max (component l.stamp y) (joined_in (clock_at l.self) (drop l.touch-index l.touched) y) ≡ joined_in (clock_at l.self) l.touched y
