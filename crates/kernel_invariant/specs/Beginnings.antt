-- What a run of the kernel begins from, and what its rules say of it.
use Rattle.std.specs.Prelude.{◌≡◌, ℕ, ◌≤◌, ◌^◌, List, take}
use Rattle.store_books.specs.base_types.declared.histories.Entry.{Entry}
use Rattle.model_sound_states.specs.model_kernel.Choices.{Commit}
use Rattle.model_sound_states.specs.model_kernel.Fronts.{tried_commits}
use Rattle.model_sound_states.specs.model_kernel.Histories.{Policy, IsLegalRun, Run, commits_in, event_of, run_after, start_run}
use Rattle.model_sound_states.specs.model_kernel.Parts.{after, thing_at}
use Rattle.model_sound_states.specs.model_kernel.Scripts.{Script}
use Rattle.model_sound_states.specs.model_kernel.State.{EntityState, KernelState, Supply, empty_state}
use Rattle.model_sound_states.specs.script_types.Rules.{IsScript}
use Rattle.model_sound_states.specs.model_sound_runs.Kinds.{NamesNoLocus}
use Rattle.model_sound_states.specs.States.{IsSoundState}

-- THE BEGINNING of a run: the managers' answers, the script, and the state that the opened image means. Marks count from the moment
-- `since`, and stops are looked at from the moment `first` on.
pub record Beginning : Type 0 where
  pub supply : Supply
  pub policy : Policy
  pub script : Script
  pub state : KernelState
  pub since : ℕ
  pub first : ℕ

-- a run may begin there
pub record BeginsRight (b : Beginning) : Type 0 where
  pub script : IsScript b.script
  pub names : NamesNoLocus b.script b.state
  pub sound : IsSoundState b.supply b.state
  -- what no record tells of is as in the state of nothing
  pub unwritten : (x : ℕ) → (b.state x).version ≡ 0 → b.state x ≡ empty_state x
  -- so that no run makes a number too large for an image
  pub small : (x : ℕ) → (b.state x).version ≤ 2 ^ 61

-- the history is a legal run from there
abbrev pub IsLegal : Beginning → List Entry → Type 0
IsLegal b es = IsLegalRun b.supply b.policy b.state b.script es

-- what the rules look at after it
abbrev pub run_of : Beginning → List Entry → Run
run_of b es = run_after b.supply b.script (start_run b.state) es

-- the state after it
abbrev pub state_after : Beginning → List Entry → KernelState
state_after b es = after (event_of b.supply b.script) b.state es

-- what x is at the first place of the history where it has the version n
abbrev pub entity_at : Beginning → List Entry → ℕ → ℕ → EntityState
entity_at b es x n = thing_at (event_of b.supply b.script) (λ (e : EntityState). e.version) b.state es x n

-- the commits that it completes, in order, those of the opened image first
abbrev pub completed : Beginning → List Entry → List Commit
completed b es = commits_in b.supply b.script b.state es

-- and the one that it tries last, if there is one
abbrev pub with_tried : Beginning → List Entry → List Commit
with_tried b es = tried_commits b.supply b.script b.state es

abbrev pub first_commits : Beginning → List Entry → ℕ → List Commit
first_commits b es k = take k (with_tried b es)
