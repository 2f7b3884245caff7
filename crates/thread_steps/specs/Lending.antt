-- Cells that are lent for a step of one locus, and what the step asks of them.
use Rattle.std.specs.Prelude.{◌≡◌, ◌≢◌, ◌⊎◌, ℕ, List, [], ◌∷◌, ◌++◌, map, slice_get, Option, Some}
use Rattle.std.specs.Borrow.{MutBor}
use Rattle.std.specs.Option.{option_to_list}
use Rattle.base_types.specs.declared.instructions.Instr.{Instr}
use Rattle.page_store.specs.declared.store.PageStore.{Ghosts}
use Rattle.page_store.specs.model_kernel.Outcomes.{free_container, free_locus}
use Rattle.page_store.specs.model_kernel.Soundness.{AreSound}
use Rattle.page_store.specs.model_kernel.State.{AtlasState, KernelState, Supply}
use Rattle.table_laws.specs.data_atlas_facts.Directory.{Directory}
use Rattle.table_laws.specs.act_calls.Calls.{atlas_state}
use Rattle.table_laws.specs.page_memory.declared.paged.PagedMemory.{PagedMemory}
use Rattle.table_laws.specs.page_memory.Words.{AreCleanTrue}
use Rattle.table_laws.specs.cell_states.declared.cells.Cell.{Cell}
use Rattle.table_laws.specs.cell_states.declared.cells.Part.{Part}
use Rattle.table_laws.specs.cell_calls.Besides.{memory_of}
use Rattle.table_laws.specs.cell_blob_laws.Memories.{HasOwnMemory}
use Rattle.table_laws.specs.cell_plans.Plans.{IsPlanned}
use Rattle.table_laws.specs.cell_plans.declared.plans.Reach.{Reach}
use Rattle.table_laws.specs.cell_plans.declared.plans.Reach.TheVariants as reach
use Rattle.table_laws.specs.cell_steps.Advances.{HasCells}
use Rattle.table_laws.specs.Lending.{StandIn}
use Rattle.table_laws.specs.Tables.{AreFewWrites, HasKind}
use Rattle.thread_history.specs.Given.{came, left}

-- what is lent: the locus, and at most one cell of the atlas, one other cell and one store
pub record Lent (B : Type 0) : Type 0 where
  pub locus : Cell
  pub atlas : List Cell
  pub other : List Cell
  pub store : List B

-- the same as it came, and as it is left
abbrev pub lent_as : {B : Type 0} → Cell → Option (MutBor Cell) → Option (MutBor Cell) → Option (MutBor B) → Lent B
lent_as c atlas other store = record { locus = c; atlas = came atlas; other = came other; store = came store }

abbrev pub left_as : {B : Type 0} → Cell → Unit {0} ⊎ ((MutBor Cell × Unit {0}) ⊎ ⊥) → Unit {0} ⊎ ((MutBor Cell × Unit {0}) ⊎ ⊥) → Unit {0} ⊎ ((MutBor B × Unit {0}) ⊎ ⊥) → Lent B
left_as c atlas other store = record { locus = c; atlas = left atlas; other = left other; store = left store }

abbrev pub cells_of : {B : Type 0} → Lent B → List Cell
cells_of x = x.locus ∷ x.atlas ++ x.other

abbrev pub numbers_of : List Cell → List ℕ
numbers_of cs = map (λ (c : Cell). c.clock.entity) cs

-- THE ENTITIES that a step of this reach touches besides the locus, by this atlas: the atlas first, and what is born has the lowest free number
abbrev pub touched_by : AtlasState → Reach → List ℕ
touched_by a (reach.Alone act) = []
touched_by a (reach.Beside y) = y ∷ []
touched_by a (reach.Look y) = y ∷ []
touched_by a (reach.Mapping y) = 0 ∷ y ∷ []
touched_by a reach.Make = 0 ∷ option_to_list (free_container a)
touched_by a reach.Spawn = 0 ∷ option_to_list (free_locus a)

-- THE CELLS ARE a sound state's, by some supplier and some words in blocks, and where the locus isn't idle, those beside it are those that its wanted act touches
pub record AreLent (c : Cell) (atlas other : List Cell) : Type 0 where
  pub supply : Supply
  pub words : ℕ → List ℕ
  pub state : KernelState
  pub directory : AtlasState
  pub sound : AreSound directory (λ x. (state x).cell)
  pub has : HasCells supply words state (c ∷ atlas ++ other)
  pub first : (k : Cell) → atlas ≡ k ∷ [] → k.clock.entity ≡ 0
  pub apart : (d : Cell) → other ≡ d ∷ [] → d.clock.entity ≢ 0
  -- the part is of its number's kind, also where it isn't born
  pub kind : (d : Cell) → other ≡ d ∷ [] → HasKind d.clock.entity d.part
  pub touched : (i : Instr) (r : Reach) → IsPlanned c i r → numbers_of (atlas ++ other) ≡ touched_by directory r

-- THE STORE HOLDS the blocks of the container's pages, each once, and what it tells of a page that isn't changed is true
pub record HoldsPages {B : Type 0} (stores : Ghosts B) (s : Supply) (b : B) (p : Part) : Type 0 where
  pub own : HasOwnMemory (stores.held b) p
  pub clean : stores.tells → (m : PagedMemory) → memory_of p ≡ Some m → AreCleanTrue s (stores.words b) m

-- a look at the container is given a store that holds its pages
abbrev pub GivesStore : {B : Type 0} → Ghosts B → Supply → List Cell → List B → Type 0
GivesStore stores s (d ∷ []) (b ∷ []) = HoldsPages stores s b d.part
GivesStore stores s other store = ⊥

-- WHAT A STEP OVER LENT CELLS ASKS of them: the cells are right, each version may rise, and a load or a store of a word is given the store
pub record MayStep {B : Type 0} (stores : Ghosts B) (s : Supply) (x : Lent B) : Type 0 where
  pub lent : AreLent x.locus x.atlas x.other
  pub few : AreFewWrites (cells_of x)
  pub given : (i : Instr) (y : ℕ) → IsPlanned x.locus i (reach.Look y) → GivesStore stores s x.other x.store

-- THE CELLS ARE LENT FROM A TABLE whose directory is this, by a plan of the locus: each stands at its number, and a look is given the store
pub record IsLentFrom {B : Type 0} (cs : List Cell) (d : Directory) (b : B) (i : Instr) (r : Reach) (x : Lent B) : Type 0 where
  pub locus : slice_get cs x.locus.clock.entity ≡ Some x.locus
  pub others : StandIn cs (x.atlas ++ x.other)
  pub first : (k : Cell) → x.atlas ≡ k ∷ [] → k.clock.entity ≡ 0
  pub apart : (e : Cell) → x.other ≡ e ∷ [] → e.clock.entity ≢ 0
  pub planned : IsPlanned x.locus i r
  pub numbers : numbers_of (x.atlas ++ x.other) ≡ touched_by (atlas_state d) r
  pub store : (y : ℕ) → r ≡ reach.Look y → x.store ≡ b ∷ []
