use Rattle.data_stamps.specs.Stamps.{component}
use Rattle.data_cut_facts.specs.Records.{choice}
use Rattle.data_cut_facts.specs.Searches.{IsSearch, place_at, mark_at, falls_left}
use Rattle.data_cuts.proofs.greatest_from.Given as goal

abbrev pub invariant-loop-x : goal.invariant-loop-x
invariant-loop-x l = IsSearch (choice l.chains.start) l.recs (place_at l.search.chosen) (component l.search.cut) (mark_at l.search.lacking)

abbrev pub decreases-loop-x : goal.decreases-loop-x
decreases-loop-x l = falls_left l.search.chosen
