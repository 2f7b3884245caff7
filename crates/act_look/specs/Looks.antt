-- What a look wants, when it comes to a word, and what it makes of locus and container.
use Rattle.std.specs.Prelude.{◌≡◌, ◌≢◌, ℕ, ◌*◌, ◌/◌, ◌<◌, ◌≤◌, Bool, true, false, ◌&&◌, nat_lt, None, find, is_some, not, unwrap_or}
use Rattle.base_types.specs.declared.histories.Answer.{Answer}
use Rattle.base_types.specs.declared.histories.Answer.TheVariants.{Read}
use Rattle.base_types.specs.declared.instructions.Instr.{Instr}
use Rattle.base_types.specs.declared.instructions.Instr.TheVariants.{Load, Store}
use Rattle.base_types.specs.declared.instructions.Reply.TheVariants.{Ok}
use Rattle.act_invoke.specs.model_kernel.State.{AtlasState, ContainerState, LocusState, ContainerCell, Supply}
use Rattle.act_invoke.specs.model_kernel.Acts.{wanted}
use Rattle.act_invoke.specs.model_kernel.Outcomes.{Outcome, finish, look_address, outcome, own, set_reg, with_other, with_word}
use Rattle.act_invoke.specs.model_kernel.Refusals.{instr_at, reg}
use Rattle.act_invoke.specs.model_kernel.Words.{covers}
use Rattle.act_invoke.specs.act_alone.Loci.{container_with}
use Rattle.act_invoke.specs.act_alone.declared.loci.Head.{Head}
use Rattle.page_memory.specs.declared.paged.PagedMemory.{PagedMemory}
use Rattle.act_look.specs.declared.aim.Access.{Access}
use Rattle.act_look.specs.declared.aim.Access.TheVariants.{Load as Reads, Store as Writes}

-- a load or a store
abbrev pub is_look : Instr → Bool
is_look (Load d a) = true
is_look (Store a v) = true
is_look i = false

abbrev pub is_store : Instr → Bool
is_store (Store a v) = true
is_store i = false

abbrev pub address_by : LocusState → Instr → ℕ
address_by l (Load d a) = look_address l (reg l a)
address_by l (Store a v) = look_address l (reg l a)
address_by l i = 0

-- the address at which the wanted load or store looks
abbrev pub address_of : LocusState → ℕ
address_of l = address_by l (instr_at l)

-- the look comes to the word: the page is one of the container's, and none of its regions covers it
abbrev pub comes_to_word : Head → ℕ → Bool
comes_to_word h address = nat_lt (address / 128) h.pages && not (is_some (find (λ r. covers r (address / 128)) h.regions))

-- the memory is that of the container with this head
pub record IsMemoryOf (h : Head) (m : PagedMemory) : Type 0 where
  pub tag : m.tag ≡ h.tag
  pub pages : m.pages ≡ h.pages

-- the outcome of a look at a container: the locus, the answer, and the container with its words
pub record Looked (o : Outcome) (m : LocusState) (answer : Answer) (c c' : ContainerState) : Type 0 where
  pub locus : m ≡ o.locus
  pub answers : answer ≡ o.answer
  pub container : unwrap_or o.other (ContainerCell c) ≡ ContainerCell c'
  pub newborn : o.newborn ≡ None

-- the outcome of a look that only reads the container
pub record Shows (o : Outcome) (m : LocusState) (answer : Answer) : Type 0 where
  pub locus : m ≡ o.locus
  pub answers : answer ≡ o.answer
  pub other : o.other ≡ None
  pub newborn : o.newborn ≡ None

-- the right that the access needs
abbrev pub needed_by : Access → ℕ
needed_by (Reads d) = 1
needed_by (Writes v) = 2

-- whether the word is written
abbrev pub writes : Access → Bool
writes (Reads d) = false
writes (Writes v) = true

-- a load names one of the eight registers
abbrev pub NamesRegister : Access → Type 0
NamesRegister (Reads d) = d < 8
NamesRegister (Writes v) = Unit {0}

-- what is made of the word that the look comes to
abbrev pub done_by : LocusState → ContainerState → ℕ → Access → Outcome
done_by l c address (Reads d) = own (finish (set_reg l d (c.words address)) Ok) (Read (c.words address))
done_by l c address (Writes v) = with_other l Ok (ContainerCell (with_word c address v))

-- WHATEVER THE STORE TELLS
-- For any words there are words, the same past the container's pages, of which the look makes this locus, this answer and these words.

pub record LooksSomehow (l m : LocusState) (h : Head) (answer : Answer) : Type 0 where
  pub before : (ℕ → ℕ) → ℕ → ℕ
  pub after : (ℕ → ℕ) → ℕ → ℕ
  pub past : (words : ℕ → ℕ) (at : ℕ) → h.pages * 128 ≤ at → (before words at ≡ words at) × (after words at ≡ words at)
  pub made : (words : ℕ → ℕ) (me : ℕ) (s : Supply) (a : AtlasState)
      → Looked (outcome s l (wanted me l) a (ContainerCell (container_with (before words) h))) m answer (container_with (before words) h) (container_with (after words) h)

-- the same of a look that comes to the word
pub record ReachesSomehow (l m : LocusState) (address : ℕ) (access : Access) (answer : Answer) : Type 0 where
  pub before : (ℕ → ℕ) → ℕ → ℕ
  pub after : (ℕ → ℕ) → ℕ → ℕ
  pub elsewhere : (words : ℕ → ℕ) (at : ℕ) → at ≢ address → (before words at ≡ words at) × (after words at ≡ words at)
  pub made : (words : ℕ → ℕ) (h : Head)
      → Looked (done_by l (container_with (before words) h) address access) m answer (container_with (before words) h) (container_with (after words) h)
