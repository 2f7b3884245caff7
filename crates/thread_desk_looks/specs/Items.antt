-- What is told of a look, and true of every history that goes on from there.
use Rattle.std.specs.Prelude.{◌≡◌, ◌-◌, ◌≤◌, ℕ, List, length, Ok, Err, Result, Some, slice_get, take}
use Rattle.base_types.specs.declared.histories.Entry.{Entry}
use Rattle.base_types.specs.declared.histories.Event.TheVariants.{Step}
use Rattle.thread_looks.specs.kernel_core_facts.cell_plans.Plans.{idle_of}
use Rattle.thread_looks.specs.kernel_core_facts.cell_plans.declared.idle.Idle.{Idle as AnIdle}
use Rattle.thread_looks.specs.kernel_core_facts.kernel_invariant.Beginnings.{Beginning, run_of, state_after}
use Rattle.thread_looks.specs.kernel_core_facts.kernel_invariant.declared.stopping.Stopped.{Stopped}
use Rattle.thread_looks.specs.kernel_core_facts.declared.looked.Looked.{Looked}
use Rattle.thread_looks.specs.kernel_core_facts.declared.looked.Looked.TheVariants.{Idle, Made}

-- the step of the locus stands at its place
pub record StandsAt (me place : ℕ) (e : Entry) (es : List Entry) : Type 0 where
  pub at : slice_get es place ≡ Some e
  pub event : e.event ≡ Step
  pub actor : e.actor ≡ me

-- after so many of the entries the locus couldn't step, for this reason, where the disk tells its content
abbrev pub WasIdle : Type 0 → Beginning → ℕ → ℕ → AnIdle → List Entry → Type 0
WasIdle tells b me place why es = (place ≤ length es)
    × (tells → idle_of (b.script.steps - (run_of b (take place es)).steps me) (state_after b (take place es) me).cell ≡ Some why)

-- A LOOK AT THE LOCUS that came to this after so many entries IS TRUE OF the history: its step stands at the place, or after that many entries the
-- locus couldn't step
abbrev pub IsTrueOf : Type 0 → Beginning → ℕ → ℕ → List Entry → Result Looked Stopped → Type 0
IsTrueOf tells b me place es (Ok (Made m)) = StandsAt me place m.entry es
IsTrueOf tells b me place es (Ok (Idle why)) = WasIdle tells b me place why es
IsTrueOf tells b me place es (Err why) = Unit {0}
