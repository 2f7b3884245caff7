-- The first bad place of an image that isn't accepted.
use Rattle.std.specs.Prelude.{◌≡◌, ◌≢◌, ◌⊎◌, ℕ, ◌-◌, ◌*◌, ◌/◌, ◌%◌, ◌<◌, ◌≤◌, ◌==◌, ◌&&◌, if◌then◌else◌, List, length, slice_get, slice_index, Option, Some}
use Rattle.image_blocks.specs.edge_disk.Image.{Image}
use Rattle.image_blocks.specs.base_types.Kinds.{kind_of}
use Rattle.image_blocks.specs.base_types.declared.records.Rec.{Rec}
use Rattle.blob_grammar.specs.Forms.{IsSpelling}
use Rattle.blob_grammar.specs.Places.{GoesPast, IsBadPlace}
use Rattle.image_blocks.specs.image_facts.Bodies.{blob_in, blob_room}
use Rattle.image_blocks.specs.Checks.{Bad, records_fault}
use Rattle.image_blocks.specs.image_facts.Checks.{count_in}
use Rattle.image_blocks.specs.Layout.{body_at}
use Rattle.image_blocks.specs.Logs.{HasRecords}
use Rattle.image_blocks.specs.declared.areas.Area.{Area}
use Rattle.image_meaning.specs.Parts.{AreSpelt, IsSpelt, Part, chosen}
use Rattle.image_meaning.specs.Fits.{IsFit}

-- the block of the body of the entity's chosen record, the first slot that has it
pub record IsBodyBlock (area : Area) (recs : List Rec) (x : ℕ) (r : Rec) (block : ℕ) : Type 0 where
  pub slot : ℕ
  pub there : slice_get recs slot ≡ Some r
  pub first : (earlier : ℕ) → earlier < slot → slice_get recs earlier ≡ Some r → ⊥
  pub is_chosen : chosen recs x ≡ Some r
  pub is : block ≡ body_at area slot

-- the block of a blob in which a place stands; a place at the end of a whole block stands in that block
abbrev pub index_for : ℕ → ℕ → ℕ
index_for len place = if place == len && place % 1024 == 0 then len / 1024 - 1 else place / 1024

abbrev pub blob_bad : Rec → ℕ → Bad
blob_bad r place = record { block = slice_index r.blocks (index_for r.length place); place = place - 1024 * index_for r.length place }

-- the first byte behind a blob that isn't 0
pub record IsFirstRest (room : List ℕ) (len place : ℕ) : Type 0 where
  pub from : len ≤ place
  pub within : place < length room
  pub not_zero : slice_index room place ≢ 0
  pub first : (q : ℕ) → len ≤ q → q < place → slice_index room q ≡ 0

-- where no spelling goes on; where the bytes go on behind a whole spelling it is the length in the body that is bad
abbrev pub IsBadSpelling : ℕ → Image → Rec → ℕ → Bad → Type 0
IsBadSpelling x image r body bad = (place : ℕ) × IsBadPlace (IsSpelling (kind_of x)) (blob_in image r) place
    × ((GoesPast (IsSpelling (kind_of x)) (blob_in image r) place × (bad ≡ record { block = body; place = 4 }))
    ⊎ ((GoesPast (IsSpelling (kind_of x)) (blob_in image r) place → ⊥) × (bad ≡ blob_bad r place)))

abbrev pub IsBadRest : ℕ → Image → Rec → Bad → Type 0
IsBadRest x image r bad = IsSpelling (kind_of x) (blob_in image r) × (place : ℕ) × IsFirstRest (blob_room image r) r.length place
    × (bad ≡ record { block = slice_index r.blocks (place / 1024); place = place % 1024 })

-- CHECK 4: the chosen blobs before this one are spellings with zeros behind them, and this one isn't
pub record IsBadBlob (image : Image) (recs : List Rec) (area : Area) (bad : Bad) : Type 0 where
  pub entity : ℕ
  pub rec : Rec
  pub body : ℕ
  pub at : IsBodyBlock area recs entity rec body
  pub before : (y : ℕ) (r : Rec) → y < entity → chosen recs y ≡ Some r → (part : Part) × IsSpelt image y r part
  pub fault : IsBadSpelling entity image rec body bad ⊎ IsBadRest entity image rec bad

-- CHECK 5: all are spelt, the chosen entities before this one fit, and this one doesn't
pub record IsUnfit (image : Image) (recs : List Rec) (area : Area) (bad : Bad) : Type 0 where
  pub parts : ℕ → Option Part
  pub spelt : AreSpelt image recs parts
  pub entity : ℕ
  pub part : Part
  pub is : parts entity ≡ Some part
  pub rec : Rec
  pub body : ℕ
  pub at : IsBodyBlock area recs entity rec body
  pub before : (y : ℕ) (p : Part) → y < entity → parts y ≡ Some p → IsFit (count_in image) recs parts y p
  pub unfit : IsFit (count_in image) recs parts entity part → ⊥
  pub place : bad ≡ record { block = body; place = 0 }

pub record IsBadMeaning (image : Image) (bad : Bad) : Type 0 where
  pub recs : List Rec
  pub has : HasRecords recs image
  pub fault : IsBadBlob image recs has.area bad ⊎ IsUnfit image recs has.area bad

-- THE FIRST BAD PLACE of an image
abbrev pub IsForeign : Image → Bad → Type 0
IsForeign image bad = (records_fault image ≡ Some bad) ⊎ IsBadMeaning image bad
