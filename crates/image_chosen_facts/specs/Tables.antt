-- Page tables of 256 places.
use Rattle.std.specs.Prelude.{◌≡◌, ◌≢◌, ℕ, ◌<◌, ◌≤◌, List, [], All, Option, Some, None, length, map, slice_index, slice_index_or}
use Rattle.image_blobs.specs.image_facts.Layout.{pool_at}
use Rattle.image_blobs.specs.image_meaning.Parts.{Part, table_in}
use Rattle.image_blobs.specs.log_reading.declared.log.ImageLog.{ImageLog}
use Rattle.data_blocks.specs.declared.ShadowTable.{ShadowTable}
use Rattle.image_blobs.specs.image_fits.Chosen.{parts_of}
use Rattle.image_blobs.specs.image_fits.declared.chosen.ChosenEntity.{ChosenEntity}

-- the table has the blocks of these pages, and 0 past them
pub record IsTableOf (blocks table : List ℕ) : Type 0 where
  pub long : length table ≡ 256
  pub same : (page : ℕ) → page < 256 → slice_index table page ≡ slice_index blocks page

-- the blocks of the pages of what may be chosen
abbrev pub blocks_in : Option Part → List ℕ
blocks_in None = []
blocks_in (Some part) = table_in part

-- the table of an entity
abbrev pub table_at : List ShadowTable → ℕ → List ℕ
table_at tables x = slice_index_or (map (λ (t : ShadowTable). t.0) tables) x []

-- a table for each entity, of its pages' blocks
pub record AreTablesOf (entities : List (Option ChosenEntity)) (tables : List ShadowTable) : Type 0 where
  pub places : length tables ≡ length entities
  pub each : (x : ℕ) → x < length entities → IsTableOf (blocks_in (parts_of entities x)) (table_at tables x)

-- each block is one of the image's pool, or 0 for none
abbrev pub ArePlaced : ImageLog → List ShadowTable → Type 0
ArePlaced log tables = (x : ℕ) → All (λ n. n ≢ 0 → (pool_at ≤ n) × (n < log.blocks)) (table_at tables x)
