use Rattle.std.proofs.Common.{◌≡◌, ℕ, ◌<◌, ◌≤◌, ◌&&◌, not}
use Rattle.data_cuts.specs.data_cut_facts.Searches.{mark_at}
use Rattle.trace_state.specs.Flags.{wrote_in}
use Rattle.trace_state.proofs.wishes.unmark.Given as goal

abbrev pub invariant-loop-x : goal.invariant-loop-x
invariant-loop-x l = record {
  done : (k : ℕ) → k < l.x → mark_at l.marks k ≡ (not (wrote_in l.touched k) && mark_at l.fn.marks k);
  rest : (k : ℕ) → l.x ≤ k → mark_at l.marks k ≡ mark_at l.fn.marks k;
}
