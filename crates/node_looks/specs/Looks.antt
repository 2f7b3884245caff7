-- How many commits are completed before and behind the steps of a history.
use Rattle.std.specs.Prelude.{◌≡◌, ℕ, if◌then◌else◌, List, [], ◌∷◌, ◌++◌, drop, length, nat_lt, slice_get}
use Rattle.base_types.specs.declared.histories.Entry.{Entry}
use Rattle.kernel_watchers.specs.Steps.{steps_at}
use Rattle.kernel_runs.specs.kernel_invariant.Beginnings.{Beginning, completed}
use Rattle.kernel_runs.specs.kernel_invariant.Marks.{is_step}
use Rattle.kernel_runs.specs.kernel_run_facts.Watching.{IsNext}

-- the numbers of commits before each step of these entries, which stand behind a front of the history, and behind them all
abbrev pub commits_around : Beginning → List Entry → List Entry → List ℕ
commits_around b front [] = length (completed b front) ∷ []
commits_around b front (e ∷ es) =
    if is_step e
    then length (completed b front) ∷ commits_around b (front ++ e ∷ []) es
    else commits_around b (front ++ e ∷ []) es

-- BEHIND EACH STEP, with the records that its look makes, so many commits are completed
abbrev pub commits_behind : Beginning → List Entry → List ℕ
commits_behind b es = drop 1 (commits_around b [] es)

-- one number more, where the piece that came has a step
abbrev pub NextPieceLaw : Type 0
NextPieceLaw = (b : Beginning) (es new : List Entry) → IsNext b es new
    → commits_behind b new ≡ commits_behind b es ++ (if nat_lt 0 (steps_at (slice_get new (length es))) then length (completed b new) ∷ [] else [])
