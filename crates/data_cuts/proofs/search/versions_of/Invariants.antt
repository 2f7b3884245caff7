use Rattle.std.proofs.Common.{◌≡◌, ℕ, ◌<◌, ◌≤◌, slice_index}
use Rattle.data_cut_facts.specs.Records.{choice}
use Rattle.data_cut_facts.specs.Searches.{version_at, place_at}
use Rattle.data_cuts.proofs.search.versions_of.Given as goal

abbrev pub invariant-loop-x : goal.invariant-loop-x
invariant-loop-x l = record {
  done : (k : ℕ) → k < l.x → slice_index l.version-items k ≡ version_at l.recs (choice l.start k) (place_at l.places k);
  rest : (k : ℕ) → l.x ≤ k → slice_index l.version-items k ≡ 0;
}
