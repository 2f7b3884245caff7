-- Why a source was not read to its end, and how much of it was taken then.
use Rattle.std.specs.Prelude.{ℕ, ◌+◌, ◌≤◌, List, Option, length, ⊤}
use Rattle.std.specs.Io.KnownBytes.{Consumes}
use Rattle.edge_streams.specs.declared.reading.ReadStop.{ReadStop}
use Rattle.edge_streams.specs.declared.reading.ReadStop.TheVariants.{Source, Memory, Long}
use Rattle.edge_streams.specs.declared.reading.TheConstants.{PIECE_BYTES}

-- the source failed
abbrev pub IsFault : ReadStop → Type 0
IsFault (Source fault) = ⊤
IsFault Memory = ⊥
IsFault Long = ⊥

-- at most so many of the bytes that were left were taken, where they are told
pub record TakesAtMost (before after : Option (List ℕ)) (most : ℕ) : Type 0 where
  pub taken : List ℕ
  pub consumed : Consumes before after taken
  pub within : length taken ≤ most

-- how many bytes at most were taken where the reading of at most so many stopped so: no more than may be where the source failed, and one
-- piece more where it is too long
abbrev pub most_taken : ℕ → ReadStop → ℕ
most_taken limit (Source fault) = limit
most_taken limit Memory = 0
most_taken limit Long = limit + PIECE_BYTES
