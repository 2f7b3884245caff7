-- What the touches so far write has the clock.
use Rattle.std.proofs.Common.{◌≡◌, ℕ, ◌<◌, take, if◌then◌else◌}
use Rattle.data_stamps.specs.Stamps.{component}
use Rattle.trace_state.specs.Clocks.{clock_at}
use Rattle.trace_state.specs.Flags.{wrote_in}
use Rattle.trace_state.proofs.clocks.Clocks.take_in.Given as goal

abbrev pub invariant-loop-touch : goal.invariant-loop-touch
invariant-loop-touch l = (x y : ℕ) → x < 64 → clock_at l.self x y ≡ (if wrote_in (take l.touch-index l.touches) x then component l.stamp y else clock_at l.fn.self x y)
