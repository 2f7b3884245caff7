-- The run that a checker follows, from its fresh start.
use Rattle.std.specs.Prelude.{ℕ, ◌≤◌, ◌^◌, List}
use Rattle.base_types.specs.declared.histories.Entry.{Entry}
use Rattle.plain_runs.specs.plain_states.Events.{state_with}
use Rattle.plain_runs.specs.plain_states.Plains.{cells_of}
use Rattle.plain_runs.specs.plain_states.declared.plain.Plain.{Plain}
use Rattle.plain_runs.specs.model_kernel.Histories.{IsLegalRun, Policy, Run, run_after, start_run}
use Rattle.plain_runs.specs.model_kernel.Scripts.{Script}
use Rattle.plain_runs.specs.model_kernel.Soundness.{IsSound}
use Rattle.plain_runs.specs.model_kernel.State.{KernelState, Supply}
use Rattle.plain_runs.specs.model_kernel.Vectors.{StampsBelow}
use Rattle.model_run_rules.specs.model_run_laws.Versions.{OnlyBelow64}
use Rattle.plain_runs.specs.script_types.Rules.{IsScript}
use Rattle.plain_runs.specs.model_sound_runs.Kinds.{NamesNoLocus}

-- a legal run of an allowed script, from a sound state whose versions can rise
pub record IsRunFrom (s : Supply) (policy : Policy) (script : Script) (w : KernelState) (es : List Entry) : Type 0 where
  pub rules : IsScript script
  pub kinds : NamesNoLocus script w
  pub sound : IsSound (λ x. (w x).cell)
  pub below : StampsBelow w
  pub narrow : OnlyBelow64 (λ x. (w x).version)
  pub low : (x : ℕ) → (w x).version ≤ 2 ^ 62
  pub legal : IsLegalRun s policy w script es

-- what the rules look at after these entries, from this state
abbrev pub run_of : Supply → Script → KernelState → List Entry → Run
run_of s script w es = run_after s script (start_run w) es

-- the answers of a supplier and a policy
pub record Managers : Type 0 where
  pub word : Supply
  pub wish : Policy

-- the state with these cells and versions, and clocks that tell nothing
abbrev pub fresh : Supply → Plain → List ℕ → KernelState
fresh s p versions = state_with (cells_of s p) versions (λ _ _. 0)
