use Rattle.data_cut_facts.proofs.Ascending.{IsAscendingTo}
use Rattle.data_cuts.proofs.is_ascending.Given as goal

abbrev pub invariant-loop-rec : goal.invariant-loop-rec
invariant-loop-rec l = IsAscendingTo l.recs l.rec-index l.newest
