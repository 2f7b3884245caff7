-- What a step over lent cells makes of them.
use Rattle.std.specs.Prelude.{◌≡◌, ◌⊎◌, ℕ, false, List, [], ◌∷◌, ◌++◌, Some, Ok, Err}
use Rattle.base_types.specs.declared.histories.Entry.{Entry}
use Rattle.base_types.specs.declared.instructions.Instr.{Instr}
use Rattle.page_store.specs.declared.faults.PageFault.{PageFault}
use Rattle.page_store.specs.declared.faults.PageFault.TheVariants as fault
use Rattle.page_store.specs.declared.store.PageStore.{Ghosts}
use Rattle.page_store.specs.model_kernel.Refusals.{instr_at}
use Rattle.page_store.specs.model_kernel.State.{Supply}
use Rattle.table_laws.specs.edge_disk.declared.disk.NoBlocks.{NoBlocks}
use Rattle.table_laws.specs.act_alone.Loci.{locus_of}
use Rattle.table_laws.specs.act_alone.declared.loci.Locus.{Locus}
use Rattle.table_laws.specs.page_memory.Calls.{PagesOnce}
use Rattle.table_laws.specs.cell_states.declared.cells.Cell.{Cell}
use Rattle.table_laws.specs.cell_states.declared.cells.Part.TheVariants as part
use Rattle.table_laws.specs.cell_states.Cells.{part_of}
use Rattle.table_laws.specs.cell_calls.Besides.{KeepsMemory}
use Rattle.table_laws.specs.cell_calls.act_calls.Calls.{is_spawn}
use Rattle.table_laws.specs.cell_looks.Looking.{IsLookShortIn, LeavesMemoryIn, LooksAtWord, TurnsPart}
use Rattle.table_laws.specs.cell_steps.cell_newborns.Bearing.{IsNewContainer, IsUnbornContainer}
use Rattle.table_laws.specs.cell_plans.Plans.{IsPlanned}
use Rattle.table_laws.specs.cell_plans.declared.plans.Reach.TheVariants as reach
use Rattle.table_laws.specs.cell_steps.Advances.{AdvancesSomehow, StepsCells}
use Rattle.table_laws.specs.Lending.{ForPairs}
use Rattle.table_steps.specs.declared.stepping.Made.{Made}
use Rattle.thread_steps.specs.Lending.{Lent, numbers_of}

-- a cell's memory is kept, or begins with the container
abbrev pub KeepsOrBegins : Cell → Cell → Type 0
KeepsOrBegins c d = KeepsMemory c.part d.part ⊎ (IsUnbornContainer c.part × IsNewContainer d.part)

-- A STEP THAT LOOKS AT NO CONTAINER is the model's whatever the supplier answers and the blocks hold. The atlas and another entity are lent, or not.
pub record StepsApart (c c' : Cell) (atlas atlas' other other' : List Cell) (i : Instr) (e : Entry) : Type 0 where
  pub step : (s : Supply) (words : ℕ → List ℕ) → StepsCells s words words c.clock.entity (c ∷ atlas ++ other) (c' ∷ atlas' ++ other') e
  pub memory : is_spawn i ≡ false → ForPairs KeepsOrBegins other other'
  pub numbers : numbers_of (c' ∷ atlas' ++ other') ≡ numbers_of (c ∷ atlas ++ other)

-- A STEP THAT LOOKS at the container d in the store b
pub record LooksAt {B : Type 0} (stores : Ghosts B) (s : Supply) (c d c' d' : Cell) (b b' : B) (e : Entry) : Type 0 where
  pub step : stores.tells → StepsCells s (stores.words b) (stores.words b') c.clock.entity (c ∷ d ∷ []) (c' ∷ d' ∷ []) e
  pub somehow : AdvancesSomehow c c' d d' e
  pub memory : LeavesMemoryIn s stores d.part d'.part b b'
  pub pages : PagesOnce {T = Entry} stores b b' (Ok e)

abbrev pub StepsLooking : {B : Type 0} → Ghosts B → Supply → Cell → Cell → List Cell → List Cell → List B → List B → Entry → Type 0
StepsLooking stores s c c' (d ∷ []) (d' ∷ []) (b ∷ []) (b' ∷ []) e = LooksAt stores s c d c' d' b b' e
StepsLooking stores s c c' ds ds' bs bs' e = ⊥

-- THE STEP over what is lent, by whether it looks at a container. The instruction that was carried out is told with the entry.
pub record StepsLent {B : Type 0} (stores : Ghosts B) (s : Supply) (x y : Lent B) (made : Made) : Type 0 where
  pub instr : (l : Locus) → x.locus.part ≡ part.Locus (Some l) → made.instr ≡ instr_at (locus_of l)
  pub apart : ((i : Instr) (at : ℕ) → IsPlanned x.locus i (reach.Look at) → ⊥) → StepsApart x.locus y.locus x.atlas y.atlas x.other y.other made.instr made.entry × (y.store ≡ x.store)
  pub looking : (i : Instr) (at : ℕ) → IsPlanned x.locus i (reach.Look at) → StepsLooking stores s x.locus y.locus x.other y.other x.store y.store made.entry

-- A FAULT OF PAGING comes of a look that reads or writes a word, and changes nothing in the model. Its cause is the store's, and where a
-- block is wanting, nothing but the clock of the container's frames has moved.
pub record FaultsAt {B : Type 0} (stores : Ghosts B) (s : Supply) (c d c' d' : Cell) (b b' : B) (f : PageFault) : Type 0 where
  pub at_word : LooksAtWord c d
  pub locus : c' ≡ c
  pub rest : d' ≡ record d { part = d'.part }
  pub same : stores.tells → part_of s (stores.words b') d'.part ≡ part_of s (stores.words b) d.part
  pub memory : LeavesMemoryIn s stores d.part d'.part b b'
  pub pages : PagesOnce {T = Entry} stores b b' (Err f)
  pub turned : (n : NoBlocks) → f ≡ fault.NoBlocks n → TurnsPart d.part d'.part

abbrev pub FaultsLooking : {B : Type 0} → Ghosts B → Supply → Cell → Cell → List Cell → List Cell → List B → List B → PageFault → Type 0
FaultsLooking stores s c c' (d ∷ []) (d' ∷ []) (b ∷ []) (b' ∷ []) f = FaultsAt stores s c d c' d' b b' f
FaultsLooking stores s c c' ds ds' bs bs' f = ⊥

abbrev pub FaultsLent : {B : Type 0} → Ghosts B → Supply → Lent B → Lent B → PageFault → Type 0
FaultsLent stores s x y f = FaultsLooking stores s x.locus y.locus x.other y.other x.store y.store f

-- THE STEP IS SHORT of a block: it looks at the lent container, and that look is short of one. Both numbers.
pub record IsLookShortOver {B : Type 0} (stores : Ghosts B) (c d : Cell) (b : B) (n : NoBlocks) : Type 0 where
  pub instr : Instr
  pub planned : IsPlanned c instr (reach.Look d.clock.entity)
  pub short : IsLookShortIn stores b c.part d.part n

abbrev pub IsShortLooking : {B : Type 0} → Ghosts B → Cell → List Cell → List B → NoBlocks → Type 0
IsShortLooking stores c (d ∷ []) (b ∷ []) n = IsLookShortOver stores c d b n
IsShortLooking stores c ds bs n = ⊥

abbrev pub IsLentShort : {B : Type 0} → Ghosts B → Lent B → NoBlocks → Type 0
IsLentShort stores x n = IsShortLooking stores x.locus x.other x.store n
