-- Where a checker stands: behind a legal run, with all that the rules look at.
use Rattle.std.specs.Prelude.{◌≡◌, ℕ, ◌<◌, ◌≤◌, true, false, Option, None, Some, List, [], ◌∷◌, ◌++◌, is_some, slice_index}
use Rattle.base_types.specs.declared.histories.Entry.{Entry}
use Rattle.base_types.specs.declared.histories.Event.{Event}
use Rattle.plain_states.specs.Born.{AreEdges, AreOfOneKind}
use Rattle.plain_states.specs.Events.{Has}
use Rattle.plain_states.specs.Plains.{atlas_of, cells_of}
use Rattle.plain_states.specs.model_kernel.Histories.{May, MayCommit, Policy, Run, births_owed}
use Rattle.plain_states.specs.model_kernel.Scripts.{Script}
use Rattle.plain_states.specs.model_kernel.Soundness.{IsSound}
use Rattle.plain_states.specs.model_kernel.State.{KernelState, Supply, Text}
use Rattle.trace_step_facts.specs.Keeping.{HasClocks, HasCuts, HasWishes}
use Rattle.trace_steps.specs.declared.checker.Checker.{Checker}
use Rattle.trace_step_facts.specs.Standing.{IsRunFrom, run_of}

-- what the rules look at beside the state
pub record HasMarks (script : Script) (r : Run) (c : Checker) : Type 0 where
  pub began : r.began ≡ c.began
  pub owed : r.owed ≡ c.owed
  pub short : r.short ≡ c.short
  pub made : (x : ℕ) → x < 64 → r.steps x ≡ slice_index c.made x
  pub births : births_owed script r ≡ c.births_left
  pub tried : is_some r.tried ≡ c.tried

-- all that they look at
pub record Keeps (s : Supply) (script : Script) (r : Run) (c : Checker) : Type 0 where
  pub has : Has r.state (cells_of s c.state) c.versions
  pub sound : IsSound (cells_of s c.state)
  pub edges : AreEdges c.state.atlas.edges.items
  pub clocks : HasClocks r c.clocks
  pub wishes : HasWishes r c.wishes
  pub cuts : HasCuts r c.cuts
  pub marks : HasMarks script r c
  pub kinds : r.began ≡ true → AreOfOneKind (atlas_of c.state.atlas) script

-- THE CHECKER STANDS behind these entries, from this state
pub record Stands (s : Supply) (policy : Policy) (script : Script) (w : KernelState) (c : Checker) (es : List Entry) : Type 0 where
  pub run : IsRunFrom s policy script w es
  pub keeps : Keeps s script (run_of s script w es) c

-- somewhere
abbrev pub IsStanding : Supply → Policy → Script → Checker → Type 0
IsStanding s policy script c = (w : KernelState) × (es : List Entry) × Stands s policy script w c es

-- THE ENTRY MAY FOLLOW, with this event and actor, and the checker stands behind it
pub record Follows (s : Supply) (policy : Policy) (script : Script) (w : KernelState) (es : List Entry) (event : Event) (actor : ℕ) (e : Entry) (new : Checker) : Type 0 where
  pub made : e.event ≡ event
  pub by : e.actor ≡ actor
  pub may : May s policy script (run_of s script w es) e
  pub stands : Stands s policy script w new (es ++ e ∷ [])

-- wherever it stood
abbrev pub GoesOn : Supply → Policy → Script → Checker → Event → ℕ → Entry → Checker → Type 0
GoesOn s policy script old event actor e new = (w : KernelState) (es : List Entry) → Stands s policy script w old es → Follows s policy script w es event actor e new

-- no entry with this event and actor may follow
abbrev pub Refuses : Supply → Policy → Script → Checker → Event → ℕ → Type 0
Refuses s policy script old event actor =
    (w : KernelState) (es : List Entry) → Stands s policy script w old es → (e : Entry) → e.event ≡ event → e.actor ≡ actor → May s policy script (run_of s script w es) e → ⊥

-- a commit of the entity may be next where the checker stands
pub record CanCommit (policy : Policy) (c : Checker) (x : ℕ) : Type 0 where
  pub supply : Supply
  pub script : Script
  pub start : KernelState
  pub entries : List Entry
  pub stands : Stands supply policy script start c entries
  pub may : MayCommit policy (run_of supply script start entries) x

-- a step of the locus may be next, if it is running and no wish forbids it
pub record CanStep (c : Checker) (steps l : ℕ) : Type 0 where
  pub born : c.births_left ≡ false
  pub owed : c.owed ≡ None
  pub locus : 41 ≤ l
  pub made : slice_index c.made l < steps

-- a Stable of the actor is owed where the checker stands, and was not cut short
pub record OwesStable (policy : Policy) (c : Checker) (actor : ℕ) : Type 0 where
  pub supply : Supply
  pub script : Script
  pub start : KernelState
  pub entries : List Entry
  pub stands : Stands supply policy script start c entries
  pub owed : c.owed ≡ Some actor
  pub whole : c.short ≡ false

-- with this name left to be born, or none: then the Stable of the atlas is owed
abbrev pub owing : Option Text → Checker → Checker
owing None c = record c { births_left = false; owed = Some 0 }
owing (Some name) c = record c { births_left = true; owed = None }
