-- What the cells are that begin with the chosen parts of an image.
use Rattle.std.specs.Prelude.{◌≡◌, ℕ, ◌*◌, ◌<◌, Bool, false, List, length, slice_get, slice_index, IfSome, Option, Some}
use Rattle.page_memory.specs.Words.{AreCleanTrue, AreHeldBlocks}
use Rattle.page_memory.specs.declared.paged.PagedMemory.{PagedMemory}
use Rattle.data_frames.specs.FrameTable.{empty_table}
use Rattle.cell_clocks.specs.model_kernel.State.{Supply}
use Rattle.image_chosen.specs.image_facts.Bodies.{number_at}
use Rattle.image_state_laws.specs.image_meaning.Meaning.{entity_of}
use Rattle.image_state_laws.specs.image_meaning.Parts.{IsFormed}
use Rattle.image_chosen.specs.image_chosen_facts.Tables.{blocks_in}
use Rattle.image_chosen.specs.image_fits.Chosen.{entity_at, part_in, part_of as part_of_chosen, record_in}
use Rattle.image_chosen.specs.image_fits.declared.chosen.ChosenEntity.{ChosenEntity}
use Rattle.table_laws.specs.cell_calls.Besides.{memory_of}
use Rattle.kernel_record_facts.specs.cell_states.declared.cells.Cell.{Cell}
use Rattle.kernel_record_facts.specs.cell_states.declared.cells.Part.{Part}
use Rattle.kernel_record_facts.specs.cell_states.Cells.{part_of}
use Rattle.table_laws.specs.cell_blob_laws.Memories.{HasOwnMemory}
use Rattle.table_laws.specs.Tables.{HasKind, blocks_by, entity_by, memory_at}

-- the bytes of each block hold these words
abbrev pub HoldWords : (ℕ → List ℕ) → (ℕ → List ℕ) → Type 0
HoldWords bytes words = (n place : ℕ) → place < 128 → slice_index (words n) place ≡ number_at (8 * place) 8 (bytes n)

-- the part of a cell is what is chosen of its entity: its state, and the blocks of its pages, of which none is resident in a memory's frames
pub record IsChosenPart (frames x : ℕ) (o : Option ChosenEntity) (p : Part) : Type 0 where
  pub kind : HasKind x p
  pub state : (s : Supply) (bytes words : ℕ → List ℕ) → HoldWords bytes words → part_of s words p ≡ (entity_of s bytes x (record_in o) (part_in o)).cell
  pub table : (page : ℕ) → slice_index (blocks_by (memory_of p)) page ≡ slice_index (blocks_in (part_in o)) page
  pub own : (held : ℕ → Bool) → AreHeldBlocks held (blocks_in (part_in o)) → HasOwnMemory held p
  pub room : (m : PagedMemory) → memory_of p ≡ Some m → m.frames ≡ empty_table frames
  pub clean : (s : Supply) (words : ℕ → List ℕ) (m : PagedMemory) → memory_of p ≡ Some m → AreCleanTrue s words m

-- THE CELL IS WHAT IS CHOSEN of its entity, whose newest record that is; its locus has so many steps left
pub record IsChosenCell (frames steps x : ℕ) (o : Option ChosenEntity) (c : Cell) : Type 0 where
  pub number : c.clock.entity ≡ x
  pub part : IsChosenPart frames x o c.part
  pub state : (s : Supply) (bytes words : ℕ → List ℕ) → HoldWords bytes words → entity_by s words c ≡ entity_of s bytes x (record_in o) (part_in o)
  pub wish : c.wish ≡ record { by_step = false; asked = false; newest = c.clock.version }
  pub left : c.left ≡ steps

-- for each entity in a list its cell
pub record AreChosenCells (frames steps : ℕ) (es : List (Option ChosenEntity)) (cs : List Cell) : Type 0 where
  pub len : length cs ≡ length es
  pub each : (x : ℕ) (c : Cell) → slice_get cs x ≡ Some c → IsChosenCell frames steps x (entity_at es x) c

-- a memory of so many frames, of which none has a page, over these blocks
abbrev pub memory_with : ℕ → ℕ → List ℕ → ℕ → PagedMemory
memory_with tag pages table frames = record { tag = tag; pages = pages; frames = empty_table frames; table = table }

-- what is chosen has a spelling of its number's kind
abbrev pub IsFormedEntity : ℕ → Option ChosenEntity → Type 0
IsFormedEntity x o = IfSome o (λ e. IsFormed x (part_of_chosen e.part))

-- each memory has so many frames, with no page in them
abbrev pub HaveFrames : ℕ → List Cell → Type 0
HaveFrames frames cs = (x : ℕ) (m : PagedMemory) → memory_at (slice_get cs x) ≡ Some m → m.frames ≡ empty_table frames
