-- The step of a locus over the table.
use Rattle.std.specs.Prelude.{◌≡◌, ℕ, ◌+◌, ◌≤◌, Bool, false, ◌==◌, if◌then◌else◌, List, length, slice_get, slice_index, Some}
use Rattle.std.specs.List.{list_any}
use Rattle.cell_steps.specs.base_types.declared.histories.Entry.{Entry}
use Rattle.cell_steps.specs.base_types.declared.histories.Event.TheVariants.{Step as StepEvent}
use Rattle.cell_steps.specs.base_types.declared.instructions.Instr.{Instr}
use Rattle.cell_steps.specs.model_kernel.Histories.{Run, goes_on}
use Rattle.cell_steps.specs.model_kernel.Scripts.{Script}
use Rattle.cell_steps.specs.model_kernel.State.{Supply}
use Rattle.cell_steps.specs.model_kernel.Steps.{step}
use Rattle.cell_steps.specs.data_atlas_facts.Directory.{Directory}
use Rattle.cell_steps.specs.cell_states.declared.cells.Cell.{Cell}
use Rattle.cell_steps.specs.cell_states.declared.cells.Part.TheVariants as Part
use Rattle.cell_steps.specs.cell_plans.Plans.{IsPlanned}
use Rattle.cell_steps.specs.cell_plans.declared.plans.Reach.{Reach}
use Rattle.table_laws.specs.Tables.{AreClean, HasTableWishes, IsOrderly, state_in, tables_in}

-- THE STEP of the locus in the state that the cells are gives this entry and the state that they are left as; each run that is in this
-- state with the cells' wishes goes on to one with their wishes as they are left; and pages stay clean.
pub record GoesOn (s : Supply) (words words' : ℕ → List ℕ) (me : ℕ) (cs cs' : List Cell) (e : Entry) : Type 0 where
  pub step : step s me (state_in s words cs) ≡ Some (e, state_in s words' cs')
  pub wishes : (steps : ℕ) (script : Script) (r : Run) → r.state ≡ state_in s words cs → HasTableWishes steps r cs → HasTableWishes steps (goes_on s script r e) cs'
  pub clean : AreClean s words cs → AreClean s words' cs'

-- at most three cells are changed
pub record ChangesThree (cs cs' : List Cell) : Type 0 where
  pub changed : List ℕ
  pub few : length changed ≤ 3
  pub others : (x : ℕ) → list_any (λ y. y == x) changed ≡ false → slice_get cs' x ≡ slice_get cs x

-- THE ENTRY is a step's of the locus. Versions rise by one at most, newest records are the same, the locus has one step less left, other
-- loci as many as before, and at most three cells are changed.
pub record EntersStep (me : ℕ) (cs cs' : List Cell) (e : Entry) : Type 0 where
  pub event : e.event ≡ StepEvent
  pub actor : e.actor ≡ me
  pub versions : (x : ℕ) (c d : Cell) → slice_get cs x ≡ Some c → slice_get cs' x ≡ Some d → (c.clock.version ≤ d.clock.version) × (d.clock.version ≤ c.clock.version + 1)
  pub newest : (x : ℕ) (c d : Cell) → slice_get cs x ≡ Some c → slice_get cs' x ≡ Some d → d.wish.newest ≡ c.wish.newest
  pub left : (x : ℕ) (c d : Cell) → slice_get cs x ≡ Some c → slice_get cs' x ≡ Some d → d.left + (if x == me then 1 else 0) ≡ c.left
  pub three : ChangesThree cs cs'

-- A STEP THAT LEAVES ALL BLOCKS as they are, over a table in order, which it leaves in order
pub record StepsQuietly (me : ℕ) (cs cs' : List Cell) (e : Entry) : Type 0 where
  pub goes : (s : Supply) (words : ℕ → List ℕ) → GoesOn s words words me cs cs' e
  pub orderly : (held : ℕ → Bool) → IsOrderly held cs → IsOrderly held cs'
  pub blocks : (held : ℕ → Bool) → IsOrderly held cs → (x page : ℕ) → slice_index (tables_in cs' x) page ≡ slice_index (tables_in cs x) page
  pub enters : EntersStep me cs cs' e

-- the cell at the number is a locus's that runs, has a step left, has this instruction next, and wants an act that touches this
pub record IsPlannedAt (cs : List Cell) (me : ℕ) (i : Instr) (r : Reach) : Type 0 where
  pub cell : Cell
  pub is : slice_get cs me ≡ Some cell
  pub plan : IsPlanned cell i r

-- the table is in order over some store
pub record IsInOrder (cs : List Cell) : Type 0 where
  pub held : ℕ → Bool
  pub orderly : IsOrderly held cs

-- the cell of the atlas has this directory
pub record HasDirectory (cs : List Cell) (d : Directory) : Type 0 where
  pub cell : Cell
  pub is : slice_get cs 0 ≡ Some cell
  pub part : cell.part ≡ Part.Atlas d

-- After a fault of paging versions, clocks, wishes and steps left are the same; and where the store tells its content the state is, with
-- clean pages.
pub record StaysAtFault (tells : Type 0) (s : Supply) (words words' : ℕ → List ℕ) (cs cs' : List Cell) : Type 0 where
  pub same : (x : ℕ) (c d : Cell) → slice_get cs x ≡ Some c → slice_get cs' x ≡ Some d → (d.clock ≡ c.clock) × (d.wish ≡ c.wish) × (d.left ≡ c.left)
  pub state : tells → state_in s words' cs' ≡ state_in s words cs
  pub clean : tells → AreClean s words cs → AreClean s words' cs'
