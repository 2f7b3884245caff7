use Rattle.std.proofs.Common.{ℕ, ◌<◌, Some, IfSome}
use Rattle.data_stamps.specs.Stamps.{component}
use Rattle.data_cut_facts.specs.Records.{choice}
use Rattle.data_cut_facts.specs.Searches.{entity_at, count_to, IsOf, IsAfter, IsCovered}
use Rattle.data_cuts.proofs.search.lowered.Given as goal

-- no record after the place is covered
abbrev pub invariant-loop-place : goal.invariant-loop-place
invariant-loop-place l = record {
  one : IfSome l.place (λ j. (j < l.k) × IsOf (choice l.chains.start) l.recs (entity_at l.recs l.k) j);
  passed : (j : ℕ) → j < l.k → IsAfter l.place j → IsOf (choice l.chains.start) l.recs (entity_at l.recs l.k) j → IsCovered l.recs (component l.cut) (Some j) → ⊥;
}

abbrev pub decreases-loop-place : goal.decreases-loop-place
decreases-loop-place l = count_to l.place
