use Rattle.std.proofs.Common.{◌≡◌, ℕ, ◌<◌, nat_le}
use Rattle.trace_state.specs.Cuts.{records_of}
use Rattle.data_cuts.specs.data_cut_facts.Searches.{mark_at}
use Rattle.trace_state.proofs.cuts.Cuts.full.Given as goal

abbrev pub invariant-loop-x : goal.invariant-loop-x
invariant-loop-x l = (k : ℕ) → k < l.x → mark_at l.mark-items k ≡ nat_le 4 (records_of l.self.recs.items k)
