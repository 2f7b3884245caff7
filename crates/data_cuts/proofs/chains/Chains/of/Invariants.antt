use Rattle.std.proofs.Common.{◌≡◌, ℕ, ◌<◌, length}
use Rattle.data_cut_facts.specs.Records.{choice}
use Rattle.data_cut_facts.specs.Searches.{place_at, entity_at, IsLastOf, IsChain}
use Rattle.data_cuts.proofs.chains.Chains.of.Given as goal

abbrev pub invariant-loop-i : goal.invariant-loop-i
invariant-loop-i l = record {
  sizes : (length l.newest ≡ 64) × (length l.before ≡ 640);
  newest : (x : ℕ) → x < 64 → IsLastOf (choice l.start) l.recs l.i x (place_at l.newest x);
  before : IsChain (choice l.start) l.recs l.i l.before;
  entities : (k : ℕ) → k < l.i → entity_at l.recs k < 64;
}
