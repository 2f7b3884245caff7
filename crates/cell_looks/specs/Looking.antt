-- Looks over the cells of a locus and a container.
use Rattle.std.specs.Prelude.{◌≡◌, ◌≤◌, ℕ, ◌*◌, ◌/◌, Bool, true, false, List, Option, Some, None, unwrap_or}
use Rattle.act_look.specs.edge_disk.declared.disk.NoBlocks.{NoBlocks}
use Rattle.act_look.specs.page_store.declared.store.PageStore.{Ghosts}
use Rattle.base_types.specs.declared.histories.Answer.{Answer}
use Rattle.base_types.specs.declared.histories.Answer.TheVariants.{Read, Reply as Replied}
use Rattle.base_types.specs.declared.histories.Entry.{Entry}
use Rattle.base_types.specs.declared.instructions.Reply.TheVariants.{Ok}
use Rattle.cell_states.specs.model_kernel.Changes.{Access}
use Rattle.cell_states.specs.model_kernel.Acts.{wanted}
use Rattle.cell_states.specs.model_kernel.Outcomes.{Outcome, outcome}
use Rattle.cell_states.specs.model_kernel.State.{Supply, AtlasState, Cell, LocusState, NotBorn, AtlasCell, ContainerCell, LocusCell, KernelState}
use Rattle.cell_states.specs.model_kernel.Steps.{running, step}
use Rattle.act_look.specs.act_alone.Loci.{container_with, locus_of}
use Rattle.act_look.specs.act_alone.declared.loci.Head.{Head}
use Rattle.act_look.specs.act_alone.declared.loci.Locus.{Locus}
use Rattle.cell_states.specs.act_calls.Calls.{atlas_state}
use Rattle.act_look.specs.page_memory.declared.paged.PagedMemory.{PagedMemory}
use Rattle.act_look.specs.page_memory.Words.{AreCleanTrue, IsSoundTable}
use Rattle.act_look.specs.page_memory.Calls.{IsPageShort, Keeps, KeepsBlocks, TurnsClock}
use Rattle.act_look.specs.Looks.{IsMemoryOf, address_of, comes_to_word, is_look}
use Rattle.cell_states.specs.cell_clocks.Clocks.{HasClock}
use Rattle.cell_states.specs.Cells.{HasCell, locus_cell, part_of}
use Rattle.cell_states.specs.Steps.{Steps}
use Rattle.cell_states.specs.declared.cells.Cell.{Cell as KernelCell}
use Rattle.cell_states.specs.declared.cells.Part.{Part}
use Rattle.cell_states.specs.declared.cells.Part.TheVariants as part

-- the part is a container that is born, whose memory may be looked at
pub record MayLook (s : Supply) (tells : Type 0) (held : ℕ → Bool) (words : ℕ → List ℕ) (p : Part) : Type 0 where
  pub head : Head
  pub memory : PagedMemory
  pub is : p ≡ part.Container (record { head = Some head; memory = memory })
  pub of : IsMemoryOf head memory
  pub table : IsSoundTable held memory
  pub clean : tells → AreCleanTrue s words memory

-- The part is the same container, whose memory may be looked at again. Other held blocks are the same, with their words.
pub record LeavesMemory {B : Type 0} (s : Supply) (tells : Type 0) (held kept : B → ℕ → Bool) (words : B → ℕ → List ℕ) (p p' : Part) (b b' : B) : Type 0 where
  pub head : Head
  pub before : PagedMemory
  pub after : PagedMemory
  pub was : p ≡ part.Container (record { head = Some head; memory = before })
  pub is : p' ≡ part.Container (record { head = Some head; memory = after })
  pub of : IsMemoryOf head after
  pub table : IsSoundTable (held b') after
  pub clean : tells → AreCleanTrue s (words b') after
  pub others : Keeps tells held kept words before after b b'
  pub blocks : KeepsBlocks (kept b) before after

-- the outcome of a look: the new cells of both, and the answer
pub record MakesLook (o : Outcome) (locus old new : Cell) (answer : Answer) : Type 0 where
  pub locus_made : locus ≡ LocusCell o.locus
  pub answers : answer ≡ o.answer
  pub other_made : unwrap_or o.other old ≡ new
  pub newborn : o.newborn ≡ None

-- a word was stored
abbrev pub is_stored : Answer → Bool
is_stored (Replied Ok) = true
is_stored answer = false

-- the container with its new cell, if it is written
abbrev pub looking : ℕ → Option Cell → Access
looking x k = record { entity = x; new = k }

-- WHATEVER THE STORE TELLS

abbrev pub head_with : (ℕ → ℕ) → Option Head → Cell
head_with words None = NotBorn
head_with words (Some h) = ContainerCell (container_with words h)

-- what a part is in the model if the memory of a container has these words
abbrev pub part_with : (ℕ → ℕ) → Part → Cell
part_with words (part.Atlas a) = AtlasCell (atlas_state a)
part_with words (part.Container b) = head_with words b.head
part_with words (part.Locus l) = locus_cell l

-- the state has the cell at its number, with these words
pub record HasCellWith (words : ℕ → ℕ) (w : KernelState) (c : KernelCell) : Type 0 where
  pub part : (w c.clock.entity).cell ≡ part_with words c.part
  pub clock : HasClock w c.clock

abbrev pub pages_of : Option Head → ℕ
pages_of None = 0
pages_of (Some h) = h.pages

-- the number of pages of a container
abbrev pub pages_in : Part → ℕ
pages_in (part.Atlas a) = 0
pages_in (part.Container b) = pages_of b.head
pages_in (part.Locus l) = 0

-- For any words there are words, the same past the pages of the container p, with which the look makes the locus l this m, and leaves
-- the container as q with these words.
pub record MakesSomehow (l m p q : Part) (answer : Answer) : Type 0 where
  pub before : (ℕ → ℕ) → ℕ → ℕ
  pub after : (ℕ → ℕ) → ℕ → ℕ
  pub past : (own : ℕ → ℕ) (at : ℕ) → pages_in p * 128 ≤ at → (before own at ≡ own at) × (after own at ≡ own at)
  pub made : (own : ℕ → ℕ) (me : ℕ) (s : Supply) (words : ℕ → List ℕ) (state : LocusState) (a : AtlasState) → part_of s words l ≡ LocusCell state
      → MakesLook (outcome s state (wanted me state) a (part_with (before own) p)) (part_of s words m) (part_with (before own) p) (part_with (after own) q) answer

-- The same of the step: in each state that has the locus c, and the container d with such words, the step gives this entry, and a state
-- that has them as they are left.
pub record StepsSomehow (c c' d d' : KernelCell) (e : Entry) : Type 0 where
  pub before : (ℕ → ℕ) → ℕ → ℕ
  pub after : (ℕ → ℕ) → ℕ → ℕ
  pub past : (own : ℕ → ℕ) (at : ℕ) → pages_in d.part * 128 ≤ at → (before own at ≡ own at) × (after own at ≡ own at)
  pub step : (own : ℕ → ℕ) (s : Supply) (words : ℕ → List ℕ) (w : KernelState) → HasCell s words w c → HasCellWith (before own) w d
      → Steps s c.clock.entity w e (λ v. HasCell s words v c' × HasCellWith (after own) v d')

-- AT A WORD

-- a word was read or written
abbrev pub IsAnswerOfWord : Answer → Type 0
IsAnswerOfWord (Read value) = Unit {0}
IsAnswerOfWord (Replied Ok) = Unit {0}
IsAnswerOfWord answer = ⊥

-- the entry is of a step in this state that reads or writes a word: a load or a store that comes to it
pub record IsWordStep (w : KernelState) (e : Entry) : Type 0 where
  pub locus : LocusState
  pub runs : running (w e.actor).cell ≡ Some locus
  pub instr : is_look (wanted e.actor locus).instr ≡ true
  pub answer : IsAnswerOfWord e.answer

-- the look of the locus at the part comes to a word, whatever the words are
abbrev pub ComesToWord : LocusState → Part → Type 0
ComesToWord l p = (me : ℕ) (s : Supply) (words : ℕ → List ℕ) (a : AtlasState) → IsAnswerOfWord (outcome s l (wanted me l) a (part_of s words p)).answer

-- in each state that has the locus c and the container d the step of the locus reads or writes a word
abbrev pub LooksAtWord : KernelCell → KernelCell → Type 0
LooksAtWord c d = (s : Supply) (words : ℕ → List ℕ) (w : KernelState) (made : Entry × KernelState) → HasCell s words w c → HasCell s words w d → step s c.clock.entity w ≡ Some made → IsWordStep w made.0

-- WANT OF A BLOCK

-- THE LOOK of the locus at the container IS SHORT of a block: it comes to a word, and the word's page is short of one. Both numbers.
pub record IsLookShort (kept : ℕ → Bool) (free : ℕ) (l p : Part) (n : NoBlocks) : Type 0 where
  pub locus : Locus
  pub looks : l ≡ part.Locus (Some locus)
  pub head : Head
  pub memory : PagedMemory
  pub is : p ≡ part.Container (record { head = Some head; memory = memory })
  pub comes : comes_to_word head (address_of (locus_of locus)) ≡ true
  pub short : IsPageShort kept free memory (address_of (locus_of locus) / 128) n

-- NOTHING BUT THE CLOCK of the container's frames HAS MOVED
pub record TurnsPart (p p' : Part) : Type 0 where
  pub head : Head
  pub before : PagedMemory
  pub after : PagedMemory
  pub was : p ≡ part.Container (record { head = Some head; memory = before })
  pub is : p' ≡ part.Container (record { head = Some head; memory = after })
  pub turns : TurnsClock before after

-- OF A STORE OF ANY TYPE, by the ghost members of that type as one record

abbrev pub MayLookIn : {B : Type 0} → Supply → Ghosts B → B → Part → Type 0
MayLookIn s stores b p = MayLook s stores.tells (stores.held b) (stores.words b) p

abbrev pub LeavesMemoryIn : {B : Type 0} → Supply → Ghosts B → Part → Part → B → B → Type 0
LeavesMemoryIn s stores p p' b b' = LeavesMemory s stores.tells stores.held stores.kept_names stores.words p p' b b'

abbrev pub IsLookShortIn : {B : Type 0} → Ghosts B → B → Part → Part → NoBlocks → Type 0
IsLookShortIn stores b l p n = IsLookShort (stores.kept_names b) (stores.free b) l p n
