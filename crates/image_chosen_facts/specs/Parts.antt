-- An accepted image with the parts of its chosen records.
use Rattle.std.specs.Prelude.{◌≡◌, ℕ, List, Option}
use Rattle.edge_disk.specs.Image.{Image}
use Rattle.base_types.specs.declared.records.Rec.{Rec}
use Rattle.image_blobs.specs.image_meaning.Meaning.{Accepted}
use Rattle.image_blobs.specs.image_meaning.Parts.{Part}

-- THE IMAGE IS ACCEPTED with these records and parts
pub record IsAcceptedWith (image : Image) (recs : List Rec) (parts : ℕ → Option Part) : Type 0 where
  pub whole : Accepted image
  pub recs_are : whole.recs ≡ recs
  pub parts_are : whole.parts ≡ parts
