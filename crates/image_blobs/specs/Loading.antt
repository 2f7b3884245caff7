-- What is read of one chosen record's blob.
use Rattle.std.specs.Prelude.{◌≡◌, ◌⊎◌, ℕ, List}
use Rattle.edge_disk.specs.Image.{Image}
use Rattle.base_types.specs.declared.entities.Kind.{Kind}
use Rattle.base_types.specs.declared.records.Rec.{Rec}
use Rattle.log_reading.specs.image_blocks.Checks.{Bad}
use Rattle.image_fits.specs.image_meaning.Foreign.{IsBadRest, IsBadSpelling, blob_bad}
use Rattle.image_fits.specs.image_meaning.Parts.{Spells, kind_in}
use Rattle.image_fits.specs.Chosen.{part_of}
use Rattle.image_fits.specs.declared.chosen.ChosenPart.{ChosenPart}
use Rattle.image_fits.specs.blob_reading.declared.places.BadBlob.{BadBlob}
use Rattle.image_fits.specs.blob_reading.declared.places.BadBlob.TheVariants.{Malformed, TooLong}

-- the part is of this kind, and the bytes spell it
pub record IsRead (kind : Kind) (bytes : List ℕ) (part : ChosenPart) : Type 0 where
  pub same : kind_in (part_of part) ≡ kind
  pub spells : Spells (part_of part) bytes

abbrev pub place_in : BadBlob → ℕ
place_in (Malformed place) = place
place_in (TooLong place) = place

-- where the image is bad, for what a reader of bytes tells
abbrev pub bad_for : Rec → ℕ → BadBlob → Bad
bad_for r body (Malformed place) = blob_bad r place
bad_for r body (TooLong place) = record { block = body; place = 4 }

-- check 4 of one record: its blob is no spelling, or bytes behind it in its last block aren't 0
abbrev pub IsBadRecord : Image → Rec → ℕ → Bad → Type 0
IsBadRecord image r body bad = IsBadSpelling r.entity image r body bad ⊎ IsBadRest r.entity image r bad
