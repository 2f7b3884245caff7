-- Legal runs from sound states: what the laws of this crate ask for.
use Rattle.std.specs.Prelude.{◌≡◌, ◌<◌, ◌++◌, ℕ, List, false, true}
use Rattle.std.specs.List.{list_any}
use Rattle.base_types.specs.declared.histories.Entry.{Entry}
use Rattle.model_run_rules.specs.model_kernel.Choices.{IsGreatest}
use Rattle.model_run_rules.specs.model_kernel.Histories.{IsLegalRun, Policy, commits_above, commits_in, event_of}
use Rattle.model_run_rules.specs.model_kernel.Parts.{after, part_of}
use Rattle.model_run_rules.specs.model_kernel.Scripts.{Script}
use Rattle.model_run_rules.specs.model_kernel.State.{AtlasState, KernelState, Supply}
use Rattle.model_run_rules.specs.model_kernel.Steps.{atlas_in}
use Rattle.model_run_rules.specs.Wishes.{steps_on}
use Rattle.model_sound_states.specs.script_types.Rules.{IsScript}
use Rattle.model_sound_states.specs.model_sound_runs.Kinds.{NamesNoLocus}
use Rattle.model_sound_states.specs.States.{IsSoundState}

-- a legal run of an allowed script, from a sound state in which none of the script's containers has a locus's name
pub record IsSoundRun (s : Supply) (policy : Policy) (script : Script) (w : KernelState) (es : List Entry) : Type 0 where
  pub rules : IsScript script
  pub names : NamesNoLocus script w
  pub sound : IsSoundState s w
  pub legal : IsLegalRun s policy w script es

-- the state of a part, and its atlas
abbrev pub part_state : Supply → Script → KernelState → List Entry → (ℕ → ℕ) → KernelState
part_state s script w es p = after (event_of s script) w (part_of p es)

abbrev pub part_atlas : Supply → Script → KernelState → List Entry → (ℕ → ℕ) → AtlasState
part_atlas s script w es p = atlas_in (part_state s script w es p 0).cell

-- the entity was full at no place from the last Step that writes it to the end: fewer than four of its commits so far are at or above the
-- greatest closed choice over all commits so far
abbrev pub WasFullNowhere : Supply → Script → KernelState → List Entry → ℕ → Type 0
WasFullNowhere s script w es x =
    (front rest : List Entry) → es ≡ front ++ rest → list_any (steps_on x) front ≡ true → list_any (steps_on x) rest ≡ false
    → (q : ℕ → ℕ) → IsGreatest (λ y. (w y).version) (commits_in s script w front) q → commits_above (commits_in s script w front) q x < 4
