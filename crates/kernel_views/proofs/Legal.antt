-- One entry more.
use Rattle.std.proofs.Common.{◌≡◌, List, [], ◌∷◌, ◌++◌}
use Rattle.base_types.specs.declared.histories.Entry.{Entry}
use Rattle.kernel_records.specs.model_kernel.Histories.{IsLegalFrom, May, Run, goes_on, run_after, start_run}
use Rattle.kernel_records.proofs.model_kernel_lemmas.StableCuts.{run_append}
use Rattle.kernel_laws.specs.kernel_invariant.Beginnings.{Beginning, run_of}

-- a legal run goes on by an entry that may follow
pub legal_then : (b : Beginning) (r : Run) (es : List Entry) (e : Entry) → IsLegalFrom b.supply b.policy b.script r es → May b.supply b.policy b.script (run_after b.supply b.script r es) e
    → IsLegalFrom b.supply b.policy b.script r (es ++ e ∷ [])
legal_then b r [] e legal may = (may, tt)
legal_then b r (f ∷ es) e legal may = (legal.0, legal_then b (goes_on b.supply b.script r f) es e legal.1 may)

-- and what the rules look at goes on
pub run_next : (b : Beginning) (es : List Entry) (e : Entry) → run_of b (es ++ e ∷ []) ≡ goes_on b.supply b.script (run_of b es) e
run_next b es e = run_append b.supply b.policy b.script (start_run b.state) es (e ∷ [])
