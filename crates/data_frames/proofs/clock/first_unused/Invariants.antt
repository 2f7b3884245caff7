use Rattle.std.proofs.Common.{◌≤◌, length}
use Rattle.data_frames.specs.Held.{SameButUsed, HavePassed}
use Rattle.data_frames.proofs.clock.first_unused.Given as goal

-- the frames so far were used, and have lost their marks alone
abbrev pub invariant-loop-step : goal.invariant-loop-step
invariant-loop-step l = record {
  kept : SameButUsed l.fn.held l.held;
  slots : length l.fn.held.slots ≤ l.keys;
  start : l.start ≤ l.keys;
  passed : HavePassed l.start l.keys l.step l.fn.held l.held;
}
