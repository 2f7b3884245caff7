use Rattle.std.proofs.Common.{◌≡◌, ℕ, ◌<◌, ◌≤◌, ◌||◌}
use Rattle.data_cut_facts.specs.Searches.{needs_more, place_at, mark_at}
use Rattle.data_cuts.proofs.search.mark_later.Given as goal

abbrev pub invariant-loop-y : goal.invariant-loop-y
invariant-loop-y l = record {
  done : (k : ℕ) → k < l.y → mark_at l.lacking k ≡ (mark_at l.fn.lacking k || needs_more l.recs (place_at l.places k) l.x l.version);
  rest : (k : ℕ) → l.y ≤ k → mark_at l.lacking k ≡ mark_at l.fn.lacking k;
}
