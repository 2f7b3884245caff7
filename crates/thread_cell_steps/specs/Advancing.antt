-- What a step by lent cells makes of the table that they are lent from.
use Rattle.std.specs.Prelude.{◌≡◌, ◌≢◌, ◌≤◌, ◌+◌, ◌↔◌, ℕ, true, List, ◌∷◌, slice_get, slice_set, Option, Some, None, Result, IfErr, IfOk, IfSome, IsErrOf, OnOk}
use Rattle.base_types.specs.declared.instructions.Instr.{Instr}
use Rattle.page_store.specs.declared.faults.PageFault.{PageFault}
use Rattle.page_store.specs.declared.faults.PageFault.TheVariants as page
use Rattle.page_store.specs.declared.store.PageStore.{Ghosts}
use Rattle.page_store.specs.model_kernel.Histories.{writes}
use Rattle.page_store.specs.model_kernel.Outcomes.{free_container, free_locus}
use Rattle.page_store.specs.model_kernel.State.{AtlasState, Supply}
use Rattle.table_laws.specs.edge_disk.declared.disk.NoBlocks.{NoBlocks}
use Rattle.table_laws.specs.data_atlas_facts.Directory.{Directory}
use Rattle.table_laws.specs.act_calls.Calls.{atlas_state}
use Rattle.table_laws.specs.page_memory.Calls.{IsCausedIn}
use Rattle.table_laws.specs.cell_states.Cells.{part_of}
use Rattle.table_laws.specs.cell_states.declared.cells.Cell.{Cell}
use Rattle.table_laws.specs.cell_states.declared.cells.Part.TheVariants as part
use Rattle.table_laws.specs.cell_plans.Plans.{idle_of, IsPlanned}
use Rattle.table_laws.specs.cell_plans.declared.idle.Idle.{Idle}
use Rattle.table_laws.specs.cell_plans.declared.plans.Plan.{Plan}
use Rattle.table_laws.specs.cell_plans.declared.plans.Reach.{Reach}
use Rattle.table_laws.specs.cell_plans.declared.plans.Reach.TheVariants as reach
use Rattle.table_laws.specs.Lending.{ForPairs, IsSameNumber}
use Rattle.table_laws.specs.Steps.{EntersStep, GoesOn, HasDirectory, IsPlannedAt, StaysAtFault}
use Rattle.table_laws.specs.Tables.{left_of, state_in, tables_in, AreClean, AreFewWrites, HasNews, IsOrderly}
use Rattle.table_steps.specs.Wanting.{HasNext, IsStepShortIn, TurnsOne, WantsWord}
use Rattle.table_steps.specs.declared.stepping.Made.{Made}
use Rattle.table_steps.specs.declared.stepping.StepFault.{StepFault}
use Rattle.table_steps.specs.declared.stepping.StepFault.TheVariants as fault
use Rattle.thread_history.specs.Rules.{is_among}
use Rattle.thread_steps.specs.Lending.{numbers_of, touched_by}

-- the table, where the cells at the numbers of some are others now, one after another
abbrev pub with_cells : List Cell → List Cell → List Cell → List Cell
with_cells cs (c ∷ old) (d ∷ new) = with_cells (slice_set cs c.clock.entity d) old new
with_cells cs old new = cs

-- THE PLAN of a cell's locus: its next step, or why it makes none
pub record IsPlanOf (c : Cell) (r : Result Plan Idle) : Type 0 where
  pub idle : (s : Supply) (words : ℕ → List ℕ) → IfErr r (λ why. idle_of c.left (part_of s words c.part) ≡ Some why)
  pub goes : (s : Supply) (words : ℕ → List ℕ) → IfOk r (λ _. idle_of c.left (part_of s words c.part) ≡ None)
  pub plans : IfOk r (λ p. IsPlanned c p.instr p.reach)

-- THE LOCUS HAS A STEP, and its act touches other entities besides it than these, the atlas first
pub record WantsOthers (cs : List Cell) (me : ℕ) (lent : List ℕ) : Type 0 where
  pub directory : Directory
  pub has : HasDirectory cs directory
  pub instr : Instr
  pub reach : Reach
  pub planned : IsPlannedAt cs me instr reach
  pub others : lent ≢ touched_by (atlas_state directory) reach

-- THE STEP that was made touches exactly these besides the locus, the atlas first, by the instruction that was carried out; and its entry writes
-- none but the locus and these
pub record TouchesThese (cs : List Cell) (me : ℕ) (lent : List ℕ) (made : Made) : Type 0 where
  pub directory : Directory
  pub has : HasDirectory cs directory
  pub reach : Reach
  pub planned : IsPlannedAt cs me made.instr reach
  pub these : lent ≡ touched_by (atlas_state directory) reach
  pub only : (x : ℕ) → writes made.entry x ≡ true → is_among x (me ∷ lent) ≡ true

-- WHAT A STEP ASKS of the table: it is in order over the store, each version may rise, and pages that aren't changed are clean
pub record MayAdvance {B : Type 0} (stores : Ghosts B) (s : Supply) (cs : List Cell) (b : B) : Type 0 where
  pub orderly : IsOrderly (stores.held b) cs
  pub few : AreFewWrites cs
  pub clean : stores.tells → AreClean s (stores.words b) cs

-- THE STEP of the locus over the table and the store, whatever came of it: all that `advance` says of them
pub record HasAdvanced {B : Type 0} (stores : Ghosts B) (s : Supply) (me : ℕ) (cs cs' : List Cell) (b b' : B) (r : Result Made StepFault) : Type 0 where
  pub idle : (z : Supply) (words : ℕ → List ℕ) (why : Idle) → IsErrOf r (fault.Idle why) ↔ (idle_of (left_of (slice_get cs me)) (state_in z words cs me).cell ≡ Some why)
  pub still : (why : Idle) → IsErrOf r (fault.Idle why) → (cs' ≡ cs) × (b' ≡ b)
  pub step : stores.tells → IfOk r (λ made. GoesOn s (stores.words b) (stores.words b') me cs cs' made.entry)
  pub orderly : IsOrderly (stores.held b') cs'
  pub enters : IfOk r (λ made. EntersStep me cs cs' made.entry)
  pub instr : IfOk r (λ made. HasNext me cs made.instr)
  pub faulted : (f : PageFault) → IsErrOf r (fault.Paging f) → StaysAtFault stores.tells s (stores.words b) (stores.words b') cs cs'
  pub at_word : (f : PageFault) → IsErrOf r (fault.Paging f) → WantsWord me cs
  pub no_blocks : (n : NoBlocks) → IsErrOf r (fault.Paging (page.NoBlocks n)) ↔ IsStepShortIn stores b me cs n
  pub turned : (n : NoBlocks) → IsErrOf r (fault.Paging (page.NoBlocks n)) → TurnsOne cs cs' × (b' ≡ b)
  pub kept : stores.kept_names b' ≡ stores.kept_names b
  pub news : HasNews (stores.kept_names b) (tables_in cs) (tables_in cs')
  pub cause : (f : PageFault) → IsErrOf r (fault.Paging f) → IsCausedIn stores b b' f
  pub same_shut : OnOk r (stores.is_shut b' ≡ stores.is_shut b)
  pub one_write : stores.written b' ≤ stores.written b + 1
  pub between : stores.Pages b b'

-- THE STEP BY LENT CELLS: the locus c, and others, which are left as they are now. Nothing is done exactly where other cells are wanted;
-- else it is the table's step, which touches exactly those that are lent.
pub record AdvancesBy {B : Type 0} (stores : Ghosts B) (s : Supply) (cs : List Cell) (c c' : Cell) (old new : List Cell) (b b' : B) (r : Option (Result Made StepFault)) : Type 0 where
  pub numbers : ForPairs IsSameNumber (c ∷ old) (c' ∷ new)
  pub unfit : (r ≡ None) ↔ WantsOthers cs c.clock.entity (numbers_of old)
  pub undone : r ≡ None → (c' ≡ c) × (new ≡ old) × (b' ≡ b)
  pub advanced : IfSome r (HasAdvanced stores s c.clock.entity cs (with_cells cs (c ∷ old) (c' ∷ new)) b b')
  pub touches : IfSome r (λ came. IfOk came (TouchesThese cs c.clock.entity (numbers_of old)))

-- where the cell is the atlas's, its part is this
abbrev pub ShowsAtlas : AtlasState → Cell → Type 0
ShowsAtlas a c = c.clock.entity ≡ 0 → (d : Directory) × (c.part ≡ part.Atlas d) × (atlas_state d ≡ a)

-- what a reach touches besides the locus and the atlas
abbrev pub second_of : AtlasState → Reach → Option ℕ
second_of a (reach.Mapping y) = Some y
second_of a reach.Make = free_container a
second_of a reach.Spawn = free_locus a
second_of a r = None
