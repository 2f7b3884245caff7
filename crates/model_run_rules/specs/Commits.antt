-- The commits of a history, entry by entry.
use Rattle.std.specs.Prelude.{[], ◌∷◌, ℕ, List, filter, nat_lt}
use Rattle.base_types.specs.Edges.{upto}
use Rattle.base_types.specs.declared.histories.Entry.{Entry}
use Rattle.base_types.specs.declared.histories.Event.{Event}
use Rattle.base_types.specs.declared.histories.Event.TheVariants.{Birth, Step, Snap, Stable, Tried}
use Rattle.model_run_laws.specs.model_kernel.Choices.{Commit}
use Rattle.model_run_laws.specs.model_kernel.Histories.{chosen_commits, commits_in, event_of}
use Rattle.model_run_laws.specs.model_kernel.Parts.{after}
use Rattle.model_run_laws.specs.model_kernel.Scripts.{Script}
use Rattle.model_run_laws.specs.model_kernel.State.{KernelState, Supply}
use Rattle.model_run_rules.specs.Newest.{newest_in}

-- the entities that have changed since their newest commits, ascending: version 0 needs none
abbrev pub changed_since : KernelState → List Commit → List ℕ
changed_since w cs = filter (λ x. nat_lt (newest_in cs x) (w x).version) (upto 64)

-- these entities with their versions and stamps now
abbrev pub commits_now : Supply → Script → KernelState → List Entry → List ℕ → List Commit
commits_now s script w es xs = chosen_commits (after (event_of s script) w es) xs

-- what an event of the actor commits behind these entries: a Snap its entity, a Stable what has changed, the others nothing
abbrev pub new_commits : Supply → Script → KernelState → List Entry → ℕ → Event → List Commit
new_commits s script w es actor Birth = []
new_commits s script w es actor Step = []
new_commits s script w es actor Snap = commits_now s script w es (actor ∷ [])
new_commits s script w es actor Stable = commits_now s script w es (changed_since (after (event_of s script) w es) (commits_in s script w es))
new_commits s script w es actor Tried = []
