-- The records of the entities so far are appended.
use Rattle.std.proofs.Common.{◌≡◌}
use Rattle.trace_state.specs.Clocks.{clock_at}
use Rattle.trace_step_facts.specs.Recording.{Appends}
use Rattle.trace_steps.proofs.stables.append_changed.Given as goal

abbrev pub invariant-loop-x : goal.invariant-loop-x
invariant-loop-x l = record {
  recs : Appends l.newest l.versions (clock_at l.clocks) l.x l.fn.cuts.recs.items l.cuts.recs.items;
  start : l.cuts.start ≡ l.fn.cuts.start;
  cut : l.cuts.cut ≡ l.fn.cuts.cut;
}
