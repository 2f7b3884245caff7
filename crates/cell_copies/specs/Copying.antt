-- A container copied over cells.
use Rattle.std.specs.Prelude.{◌≡◌, ◌≢◌, ℕ, ◌+◌, ◌/◌, ◌%◌, ◌<◌, ◌≤◌, Bool, IsTrue, List, length, replicate, Some, None, slice_index, All}
use Rattle.base_types.specs.declared.capabilities.Region.{Region}
use Rattle.data_atlas.specs.data_atlas_facts.Directory.{Directory, edges_of}
use Rattle.cell_births.specs.act_alone.Loci.{container_with}
use Rattle.cell_births.specs.act_alone.declared.loci.Head.{Head}
use Rattle.cell_births.specs.act_calls.Calls.{atlas_state}
use Rattle.cell_births.specs.cell_clocks.Clocks.{HasClock}
use Rattle.cell_births.specs.cell_states.Cells.{HasCell}
use Rattle.cell_births.specs.cell_states.declared.cells.Cell.{Cell}
use Rattle.cell_births.specs.cell_states.declared.cells.Part.{Part}
use Rattle.cell_births.specs.cell_states.declared.cells.Part.TheVariants as part
use Rattle.cell_births.specs.page_memory.data_frames.FrameTable.{page_at}
use Rattle.cell_births.specs.page_memory.declared.paged.PagedMemory.{PagedMemory}
use Rattle.cell_births.specs.page_memory.Calls.{IsUnchanged}
use Rattle.cell_births.specs.page_memory.Words.{AreCleanTrue, AreHeldBlocks, IsSoundTable, stored_word, words_of}
use Rattle.model_copies.specs.Copies.{copied_container}
use Rattle.model_copies.specs.model_kernel.Scripts.{number_of}
use Rattle.model_copies.specs.model_kernel.Soundness.{is_given_name}
use Rattle.model_copies.specs.model_kernel.State.{KernelState, Supply, Text}

-- the words of a container with these blocks, none of whose pages is resident
abbrev pub table_words : Supply → ℕ → (ℕ → List ℕ) → List ℕ → ℕ → ℕ
table_words s tag words table address = stored_word s tag words (slice_index table (address / 128)) (address / 128) (address % 128)

-- WHAT A COPY ASKS of the directory and of the container's head. The name may be given and is new; the number is the lowest free one, and shows no
-- region yet; regions show numbers of containers.
pub record MayCopyPart (d : Directory) (h : Head) (number : ℕ) (fresh : Text) : Type 0 where
  pub given : IsTrue (is_given_name fresh)
  pub is_new : number_of (atlas_state d) fresh ≡ None
  pub free : length d.containers < 40
  pub number_is : number ≡ length d.containers + 1
  pub unlinked : (y : ℕ) → edges_of d number y ≡ 0
  pub targets : All (λ (r : Region). (1 ≤ r.target) × (r.target ≤ 40)) h.regions
  pub some : 1 ≤ h.pages
  pub few : h.pages ≤ 256

-- the part is a born container with these blocks, none of whose pages is resident
pub record IsSource (p : Part) (h : Head) (from : List ℕ) : Type 0 where
  pub memory : PagedMemory
  pub is : p ≡ part.Container (record { head = Some h; memory = memory })
  pub tag : memory.tag ≡ h.tag
  pub table : memory.table ≡ from
  pub none_resident : (page : ℕ) → page_at memory.frames page ≡ None

-- and it is born in the directory
pub record MayCopyCells (d : Directory) (h : Head) (from : List ℕ) (source : Cell) (number : ℕ) (fresh : Text) : Type 0 where
  pub source_is : IsSource source.part h from
  pub some : 0 < source.clock.entity
  pub born : source.clock.entity ≤ length d.containers
  pub may : MayCopyPart d h number fresh

-- the part is a container with these blocks, whose memory may be looked at where they are held; no page is resident
pub record IsBegun (p : Part) (table : List ℕ) : Type 0 where
  pub head : Head
  pub memory : PagedMemory
  pub is : p ≡ part.Container (record { head = Some head; memory = memory })
  pub tag : memory.tag ≡ head.tag
  pub pages : memory.pages ≡ head.pages
  pub some : 1 ≤ head.pages
  pub few : head.pages ≤ 256
  pub table_is : memory.table ≡ table
  pub words_are : (s : Supply) (words : ℕ → List ℕ) (address : ℕ) → words_of s words memory address ≡ table_words s head.tag words table address
  pub sound : (held : ℕ → Bool) → AreHeldBlocks held table → IsSoundTable held memory
  pub clean : (s : Supply) (words : ℕ → List ℕ) → AreCleanTrue s words memory
  pub unchanged : IsUnchanged memory

-- THE PART IS THE COPY of a container with this head, and none of its pages has a block yet
pub record IsBlankCopy (h : Head) (p : Part) : Type 0 where
  pub begun : IsBegun p (replicate 256 0)
  pub same : (words : ℕ → ℕ) → container_with words begun.head ≡ copied_container (container_with words h)

-- the part is a born container, and pages past its end have no block in the table
pub record MayPlace (p : Part) (table : List ℕ) : Type 0 where
  pub before : List ℕ
  pub begun : IsBegun p before
  pub none_past : (page : ℕ) → begun.head.pages ≤ page → slice_index table page ≡ 0

-- THE SAME CELL WITH THESE BLOCKS for its pages
pub record HasPlaced (c : Cell) (table : List ℕ) (d : Cell) : Type 0 where
  pub only_part : d ≡ record c { part = d.part }
  pub begun : IsBegun d.part table
  pub was : PagedMemory
  pub same_head : c.part ≡ part.Container (record { head = Some begun.head; memory = was })

-- exactly the pages with a block have one in the other table, each with the same words
pub record HasCopiedPages (words : ℕ → List ℕ) (from table : List ℕ) : Type 0 where
  pub none : (p : ℕ) → slice_index from p ≡ 0 → slice_index table p ≡ 0
  pub each : (p : ℕ) → slice_index from p ≢ 0 → (slice_index table p ≢ 0) × (words (slice_index table p) ≡ words (slice_index from p))

-- THE CELLS ARE THE COPY'S in the state: that of the atlas, and that of the newborn with each table that has a block for each page of the
-- container that has one, with its words
pub record HasCopy (s : Supply) (words : ℕ → List ℕ) (w : KernelState) (from : List ℕ) (a n : Cell) : Type 0 where
  pub atlas : HasCell s words w a
  pub clock : HasClock w n.clock
  pub newborn : (table : List ℕ) (placed : Cell) → HasCopiedPages words from table → HasPlaced n table placed → HasCell s words w placed
