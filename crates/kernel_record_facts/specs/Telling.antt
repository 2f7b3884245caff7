-- THE LAW of a cell's record.
use Rattle.std.specs.Prelude.{◌≡◌, ℕ, Bool, length, IfSome}
use Rattle.std.specs.List.{flat_map}
use Rattle.edge_disk.specs.Image.{Image}
use Rattle.cell_blobs.specs.model_kernel.State.{KernelState, Supply}
use Rattle.cell_blobs.specs.image_meaning.Parts.{Spells}
use Rattle.cell_blobs.specs.image_meaning.Stores.{Kept}
use Rattle.kernel_invariant.specs.store_books.Books.{page_for}
use Rattle.kernel_invariant.specs.Telling.{TellsOf}
use Rattle.cell_blobs.specs.cell_states.declared.cells.Cell.{Cell}
use Rattle.cell_blobs.specs.cell_states.Cells.{HasCell}
use Rattle.cell_blobs.specs.Blobs.{spelt_in}
use Rattle.kernel_record_facts.specs.Cells.{IsCleanIn, IsSettled, IsSoundIn, IsSpellable, table_of, words_on}

-- the record has the cell's number, version and clock, its blob spells the cell's part, and its pages are those of its table
pub record IsRecordOf (image : Image) (c : Cell) (k : Kept) : Type 0 where
  pub entity : k.rec.entity ≡ c.clock.entity
  pub version : k.rec.version ≡ c.clock.version
  pub stamp : k.rec.stamp ≡ c.clock.stamp.0
  pub components : length k.rec.stamp ≡ 64
  pub spells : IfSome (spelt_in c.part) (λ p. Spells p k.blob)
  pub pages : k.pages ≡ flat_map (page_for image) (table_of c.part)

-- no page of the cell is changed, and the image has the words of its pages
pub record IsOnImage (s : Supply) (image : Image) (held : ℕ → Bool) (c : Cell) : Type 0 where
  pub table : IsSoundIn held c.part
  pub clean : IsCleanIn s (words_on image) c.part
  pub settled : IsSettled c.part

-- Such a record tells what the entity is in each state that has the cell.
abbrev pub ToldRecordLaw : Type 0
ToldRecordLaw = (s : Supply) (image : Image) (held : ℕ → Bool) (w : KernelState) (c : Cell) (k : Kept)
    → HasCell s (words_on image) w c → IsSpellable c → IsOnImage s image held c → IsRecordOf image c k → TellsOf s w image (table_of c.part) k
