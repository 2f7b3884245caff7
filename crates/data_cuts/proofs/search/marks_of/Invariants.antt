use Rattle.std.proofs.Common.{◌≡◌, ℕ, ◌<◌, ◌≤◌, false}
use Rattle.data_stamps.specs.Stamps.{component}
use Rattle.data_cut_facts.specs.Searches.{IsMarked, place_at, mark_at}
use Rattle.data_cuts.proofs.search.marks_of.Given as goal

abbrev pub invariant-loop-x : goal.invariant-loop-x
invariant-loop-x l = record {
  done : (k : ℕ) → k < l.x → IsMarked l.recs (component l.cut) (place_at l.places k) (mark_at l.mark-items k);
  rest : (k : ℕ) → l.x ≤ k → mark_at l.mark-items k ≡ false;
}
