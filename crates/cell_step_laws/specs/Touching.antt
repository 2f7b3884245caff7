-- What a step writes, by its plan, and what it leaves of a wish.
use Rattle.std.specs.Prelude.{◌≡◌, ◌≢◌, ◌⊎◌, ℕ, ◌+◌, ◌-◌, ◌||◌, false, [], Option, Some, None}
use Rattle.plain_states.specs.base_types.declared.histories.Entry.{Entry}
use Rattle.plain_states.specs.model_kernel.Histories.{Run, asked_by, with_asked, writes}
use Rattle.plain_states.specs.model_kernel.Outcomes.{free_container, free_locus}
use Rattle.plain_states.specs.model_kernel.State.{AtlasState, KernelState, LocusState}
use Rattle.cell_newborns.specs.cell_states.declared.cells.Cell.{Cell}
use Rattle.cell_plans.specs.declared.plans.Reach.{Reach}
use Rattle.cell_plans.specs.declared.plans.Reach.TheVariants as reach

-- What a step may write besides the locus, by what its plan says that it touches: the entity that it names, and the atlas or what is
-- born, which has the lowest number that is free by the atlas before the step.
abbrev pub IsTouchedBy : Reach → AtlasState → ℕ → Type 0
IsTouchedBy (reach.Alone act) a x = ⊥
IsTouchedBy (reach.Beside y) a x = x ≡ y
IsTouchedBy (reach.Look y) a x = x ≡ y
IsTouchedBy (reach.Mapping y) a x = (x ≡ 0) ⊎ (x ≡ y)
IsTouchedBy reach.Make a x = (x ≡ 0) ⊎ (free_container a ≡ Some x)
IsTouchedBy reach.Spawn a x = (x ≡ 0) ⊎ (free_locus a ≡ Some x)

-- the wish after a step of this locus: whether the step wrote the entity or asked for it is noted, and the locus that stepped has one step less
pub record IsNoted (e : Entry) (l : Option LocusState) (c d : Cell) : Type 0 where
  pub newest : d.wish.newest ≡ c.wish.newest
  pub by_step : d.wish.by_step ≡ (writes e c.clock.entity || c.wish.by_step)
  pub asked : d.wish.asked ≡ with_asked (asked_by e.answer l) (λ _. c.wish.asked) c.clock.entity
  pub stays : c.clock.entity ≢ e.actor → d.left ≡ c.left
  pub spends : c.clock.entity ≡ e.actor → d.left + 1 ≡ c.left

-- a run in this state, with the wish of each cell at its number, and with so many steps in all
abbrev pub run_with : ℕ → KernelState → (ℕ → Cell) → Run
run_with count w cells = record {
  start = λ _. 0;
  state = w;
  began = false;
  owed = None;
  short = false;
  steps = λ x. count - (cells x).left;
  newest = λ x. (cells x).wish.newest;
  by_step = λ x. (cells x).wish.by_step;
  asked = λ x. (cells x).wish.asked;
  was_full = λ _. false;
  commits = [];
  cut = λ _. 0;
  tried = None;
}
