-- What a record of a cell rests on.
use Rattle.std.specs.Prelude.{◌≡◌, ℕ, Bool, List, Some, replicate}
use Rattle.edge_disk.specs.Image.{Image, block_at}
use Rattle.cell_blobs.specs.model_kernel.State.{Supply}
use Rattle.cell_blobs.specs.image_meaning.Parts.{IsOf, Part as Spelt}
use Rattle.kernel_invariant.specs.store_books.Books.{words_of_bytes}
use Rattle.cell_blobs.specs.page_memory.Words.{AreCleanTrue, IsSoundTable}
use Rattle.cell_blobs.specs.page_memory.Calls.{IsUnchanged}
use Rattle.cell_blobs.specs.cell_states.declared.cells.Cell.{Cell}
use Rattle.cell_blobs.specs.cell_states.declared.cells.Part.{Part}
use Rattle.cell_blobs.specs.cell_states.declared.cells.Part.TheVariants as part
use Rattle.cell_blobs.specs.Blobs.{IsFormed, spelt_in}

-- THE PAGE TABLE of a part's record: that of a container's memory, and no block else
abbrev pub table_of : Part → List ℕ
table_of (part.Atlas a) = replicate 256 0
table_of (part.Container b) = b.memory.table
table_of (part.Locus l) = replicate 256 0

-- a container's blocks are held, each once
abbrev pub IsSoundIn : (ℕ → Bool) → Part → Type 0
IsSoundIn held (part.Atlas a) = Unit {0}
IsSoundIn held (part.Container b) = IsSoundTable held b.memory
IsSoundIn held (part.Locus l) = Unit {0}

-- pages that aren't changed have their blocks' words, or the supplier's
abbrev pub IsCleanIn : Supply → (ℕ → List ℕ) → Part → Type 0
IsCleanIn s words (part.Atlas a) = Unit {0}
IsCleanIn s words (part.Container b) = AreCleanTrue s words b.memory
IsCleanIn s words (part.Locus l) = Unit {0}

-- no page is marked as changed
abbrev pub IsSettled : Part → Type 0
IsSettled (part.Atlas a) = Unit {0}
IsSettled (part.Container b) = IsUnchanged b.memory
IsSettled (part.Locus l) = Unit {0}

-- what the blocks of an image hold
abbrev pub words_on : Image → ℕ → List ℕ
words_on image n = words_of_bytes (block_at image n)

-- the cell is born, of its number's kind, and has a spelling
pub record IsSpellable (c : Cell) : Type 0 where
  pub spelt : Spelt
  pub born : spelt_in c.part ≡ Some spelt
  pub kind : IsOf c.clock.entity spelt
  pub formed : IsFormed c.part
