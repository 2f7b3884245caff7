-- Where the chosen record of an entity stands in a log, and where its blob is bad.
use Rattle.std.specs.Prelude.{◌≡◌, ◌⊎◌, ℕ, ◌<◌, List, Some, slice_get}
use Rattle.edge_disk.specs.Image.{Image}
use Rattle.base_types.specs.declared.records.Rec.{Rec}
use Rattle.image_blobs.specs.Loading.{IsBadRecord}
use Rattle.image_blobs.specs.image_blocks.Checks.{Bad}
use Rattle.image_blobs.specs.image_blocks.Layout.{body_at}
use Rattle.image_blobs.specs.image_blocks.declared.areas.Area.{Area}
use Rattle.image_blobs.specs.image_meaning.Foreign.{IsBadRest, IsBadSpelling, IsBodyBlock}
use Rattle.image_blobs.specs.image_meaning.Parts.{chosen_by}

-- the first slot that has the record that a choice takes of an entity
pub record IsChosenSlot (cut : ℕ → ℕ) (recs : List Rec) (x slot : ℕ) : Type 0 where
  pub rec : Rec
  pub there : slice_get recs slot ≡ Some rec
  pub first : (earlier : ℕ) → earlier < slot → slice_get recs earlier ≡ Some rec → ⊥
  pub is_chosen : chosen_by cut recs x ≡ Some rec

-- the blob of the record in this slot is bad, in an image with this area
pub record IsBadSlot (image : Image) (recs : List Rec) (area : Area) (slot : ℕ) (bad : Bad) : Type 0 where
  pub rec : Rec
  pub there : slice_get recs slot ≡ Some rec
  pub fault : IsBadRecord image rec (body_at area slot) bad

-- the blob of the entity's chosen record is bad
pub record IsBadEntity (image : Image) (recs : List Rec) (area : Area) (x : ℕ) (bad : Bad) : Type 0 where
  pub rec : Rec
  pub body : ℕ
  pub at : IsBodyBlock area recs x rec body
  pub fault : IsBadSpelling x image rec body bad ⊎ IsBadRest x image rec bad
