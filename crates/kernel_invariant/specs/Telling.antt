-- A record of what an entity is now.
use Rattle.std.specs.Prelude.{◌≡◌, ℕ, List, length, slice_index}
use Rattle.std.specs.List.{flat_map}
use Rattle.edge_disk.specs.Image.{Image, block_at}
use Rattle.model_sound_states.specs.model_kernel.State.{KernelState, Supply}
use Rattle.store_books.specs.image_meaning.Parts.{IsOf, Part, Spells, cell_of, table_in}
use Rattle.store_books.specs.image_meaning.Stores.{Kept}
use Rattle.store_books.specs.Books.{AreApart, page_for}

-- The record has its entity's version and clock in the state, its blob spells the entity, and its pages are those that the table names,
-- each block once, with the words that the image has there.
pub record TellsOf (s : Supply) (v : KernelState) (image : Image) (table : List ℕ) (k : Kept) : Type 0 where
  pub version : k.rec.version ≡ (v k.rec.entity).version
  pub components : length k.rec.stamp ≡ 64
  pub stamp : (v k.rec.entity).stamp ≡ slice_index k.rec.stamp
  pub part : Part
  pub kind : IsOf k.rec.entity part
  pub spells : Spells part k.blob
  pub cell : (v k.rec.entity).cell ≡ cell_of s (block_at image) part
  pub pages : k.pages ≡ flat_map (page_for image) table
  pub named : (page : ℕ) → slice_index table page ≡ slice_index (table_in part) page
  pub once : AreApart table
