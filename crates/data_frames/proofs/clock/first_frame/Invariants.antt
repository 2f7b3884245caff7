use Rattle.std.proofs.Common.{◌≤◌, length}
use Rattle.data_frames.specs.Held.{NoneBehind}
use Rattle.data_frames.proofs.clock.first_frame.Given as goal

-- no key so far has a frame
abbrev pub invariant-loop-step : goal.invariant-loop-step
invariant-loop-step l = record {
  slots : length l.held.slots ≤ l.keys;
  start : l.start ≤ l.keys;
  none : NoneBehind l.start l.keys l.step l.held;
}
