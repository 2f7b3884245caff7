-- What a reader of blobs tells of bytes that are none.
use Rattle.std.specs.Prelude.{ℕ, List}
use Rattle.base_types.specs.declared.entities.Kind.{Kind}
use Rattle.blob_grammar.specs.Forms.{IsSpelling}
use Rattle.blob_grammar.specs.Places.{GoesPast, IsBadPlace}
use Rattle.blob_reading.specs.declared.places.BadBlob.{BadBlob}
use Rattle.blob_reading.specs.declared.places.BadBlob.TheVariants.{Malformed, TooLong}

-- the bad place, and whether the bytes go on behind a whole spelling there
abbrev pub IsBadBlob : Kind → List ℕ → BadBlob → Type 0
IsBadBlob kind bytes (Malformed place) = IsBadPlace (IsSpelling kind) bytes place × (GoesPast (IsSpelling kind) bytes place → ⊥)
IsBadBlob kind bytes (TooLong place) = IsBadPlace (IsSpelling kind) bytes place × GoesPast (IsSpelling kind) bytes place
