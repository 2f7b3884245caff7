-- How many blocks a copy needs, and how many are free for it.
use Rattle.std.specs.Prelude.{◌≡◌, ℕ, ◌+◌, ◌<◌, ◌≤◌, List, length, replicate, Some}
use Rattle.edge_disk.specs.Image.{Image}
use Rattle.edge_disk.specs.declared.disk.NoBlocks.{NoBlocks}
use Rattle.cell_copies.specs.cell_births.cell_states.declared.cells.Cell.{Cell}
use Rattle.cell_copies.specs.cell_births.cell_states.Cells.{HasCell}
use Rattle.cell_copies.specs.model_copies.Copies.{IsCopied}
use Rattle.cell_copies.specs.model_copies.Needing.{LeavesCopy}
use Rattle.cell_copies.specs.model_copies.model_kernel.Scripts.{container_named}
use Rattle.cell_copies.specs.model_copies.model_kernel.State.{AtlasCell, Cell as ModelCell, ContainerCell, KernelState, LocusCell, NotBorn, Supply, Text}
use Rattle.cell_copies.specs.model_copies.model_kernel.Steps.{atlas_in}
use Rattle.cell_copies.specs.model_copies.model_sound_states.States.{IsSoundState}
use Rattle.page_placing.specs.Copying.{blocks_in}
use Rattle.kernel_record_facts.specs.Cells.{table_of, words_on}
use Rattle.kernel_record_facts.specs.blob_grammar.Spelling.{atlas_blob, container_blob, locus_blob}
use Rattle.open_image.specs.kernel_block_laws.image_facts.Bodies.{blocks_for}
use Rattle.open_image.specs.kernel_block_laws.image_facts.Checks.{count_in}
use Rattle.open_image.specs.image_meaning.Meaning.{Accepted, Means}
use Rattle.open_image.specs.kernel_laws.Opening.{chosen_recs}
use Rattle.open_image.specs.store_books.Books.{Books, free_in, recs_in}
use Rattle.open_image.specs.table_laws.Tables.{IsOrderly, state_in, tables_in}

-- the bytes of the blob of an entity that is so; that of a container has four for each page, whichever block the page has
abbrev pub spelt_length : ModelCell → ℕ
spelt_length (AtlasCell a) = length (atlas_blob a)
spelt_length (ContainerCell c) = length (container_blob c (replicate c.pages 0))
spelt_length (LocusCell l) = length (locus_blob l)
spelt_length NotBorn = 0

-- and the blocks that they take
abbrev pub spelt_blocks : ModelCell → ℕ
spelt_blocks cell = blocks_for (spelt_length cell)

-- A COPY NEEDS SO MANY BLOCKS, where these are the page tables by number: those of the container's pages that have one, and those of both new blobs
pub record NeedsBlocks (tables : ℕ → List ℕ) (name fresh : Text) (v : KernelState) (need : ℕ) : Type 0 where
  pub state : KernelState
  pub copied : IsCopied name fresh v state
  pub leaves : LeavesCopy name fresh v state
  pub need_is : need ≡ blocks_in (tables leaves.source) + (spelt_blocks (state 0).cell + spelt_blocks (state leaves.number).cell)

-- the same of each sound state that has these three cells, whatever the blocks hold
abbrev pub CellsNeed : Text → Cell → Cell → Cell → ℕ → Type 0
CellsNeed fresh a src n need = (s : Supply) (words : ℕ → List ℕ) (v : KernelState) (name : Text) → IsSoundState s v
    → container_named (atlas_in (v 0).cell) name ≡ Some src.clock.entity → HasCell s words v a → HasCell s words v src → HasCell s words v n
    → NeedsBlocks (λ x. table_of src.part) name fresh v need

-- and of what the cells of a table are
abbrev pub TableNeeds : List Cell → Text → Text → ℕ → Type 0
TableNeeds cs name fresh need = (s : Supply) (words : ℕ → List ℕ) → NeedsBlocks (tables_in cs) name fresh (state_in s words cs) need

-- fewer blocks are free than are needed; both numbers
pub record IsShort (b : Books) (m : NoBlocks) : Type 0 where
  pub fewer : m.free < m.need
  pub most : m.need ≤ 272
  pub free_is : m.free ≡ free_in b

-- AN IMAGE AS IT IS OPENED: it is accepted; the books are of as many blocks, and have its chosen records alone; the cells are what it means with each
-- supplier, and the blocks that are held are those of their pages
pub record StandsFor (image : Image) (b : Books) (cs : List Cell) : Type 0 where
  pub accepted : Accepted image
  pub count : b.count ≡ count_in image
  pub recs : recs_in b ≡ chosen_recs accepted.recs
  pub means : (s : Supply) → Means s image (state_in s (words_on image) cs)
  pub orderly : IsOrderly b.held cs

-- A COPY NEEDS SO MANY BLOCKS OF THE IMAGE, in which so many are free: the chosen records name them neither by a blob nor by a page
pub record CountsBlocks (image : Image) (name fresh : Text) (need free : ℕ) : Type 0 where
  pub books : Books
  pub cells : List Cell
  pub stands : StandsFor image books cells
  pub needs : (s : Supply) → NeedsBlocks (tables_in cells) name fresh (state_in s (words_on image) cells) need
  pub free_is : free ≡ free_in books
