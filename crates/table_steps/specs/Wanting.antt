-- What the next step of a locus over the table wants.
use Rattle.std.specs.Prelude.{◌≡◌, ◌≢◌, ℕ, Bool, List, Some, slice_get}
use Rattle.base_types.specs.declared.histories.Entry.{Entry}
use Rattle.base_types.specs.declared.instructions.Instr.{Instr}
use Rattle.page_store.specs.declared.store.PageStore.{Ghosts}
use Rattle.page_store.specs.model_kernel.Histories.{locus_in}
use Rattle.page_store.specs.model_kernel.Refusals.{instr_at}
use Rattle.page_store.specs.model_kernel.State.{KernelState, LocusState, Supply}
use Rattle.page_store.specs.model_kernel.Steps.{step}
use Rattle.table_laws.specs.edge_disk.declared.disk.NoBlocks.{NoBlocks}
use Rattle.table_laws.specs.cell_states.declared.cells.Cell.{Cell}
use Rattle.table_laws.specs.cell_looks.Looking.{IsLookShort, IsWordStep, TurnsPart}
use Rattle.table_laws.specs.cell_plans.Plans.{IsPlanned}
use Rattle.table_laws.specs.cell_plans.declared.plans.Reach.TheVariants as reach
use Rattle.table_laws.specs.Tables.{state_in}

-- THE NEXT STEP of the locus reads or writes a word, whatever the blocks hold
abbrev pub WantsWord : ℕ → List Cell → Type 0
WantsWord me cs = (s : Supply) (words : ℕ → List ℕ) (made : Entry × KernelState) → step s me (state_in s words cs) ≡ Some made → IsWordStep (state_in s words cs) made.0

-- the locus with this number has this instruction next, whatever the blocks hold
pub record HasNext (me : ℕ) (cs : List Cell) (i : Instr) : Type 0 where
  pub locus : LocusState
  pub is : (s : Supply) (words : ℕ → List ℕ) → locus_in (state_in s words cs me).cell ≡ Some locus
  pub instr : i ≡ instr_at locus

-- THE NEXT STEP of the locus IS SHORT of a block: it makes a look at a container, and that look is short of one. Both numbers.
pub record IsStepShort (kept : ℕ → Bool) (free me : ℕ) (cs : List Cell) (n : NoBlocks) : Type 0 where
  pub locus : Cell
  pub container : ℕ
  pub other : Cell
  pub instr : Instr
  pub at : slice_get cs me ≡ Some locus
  pub there : slice_get cs container ≡ Some other
  pub planned : IsPlanned locus instr (reach.Look container)
  pub short : IsLookShort kept free locus.part other.part n

-- NOTHING BUT THE CLOCK of one container's frames HAS MOVED
pub record TurnsOne (cs cs' : List Cell) : Type 0 where
  pub container : ℕ
  pub before : Cell
  pub after : Cell
  pub was : slice_get cs container ≡ Some before
  pub is : slice_get cs' container ≡ Some after
  pub turns : TurnsPart before.part after.part
  pub only_part : after ≡ record before { part = after.part }
  pub others : (x : ℕ) → x ≢ container → slice_get cs' x ≡ slice_get cs x

-- the same over a store of any type
abbrev pub IsStepShortIn : {B : Type 0} → Ghosts B → B → ℕ → List Cell → NoBlocks → Type 0
IsStepShortIn stores b me cs n = IsStepShort (stores.kept_names b) (stores.free b) me cs n
