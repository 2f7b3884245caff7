-- Numbers that stand in a list of bytes, the lowest byte first.
use Rattle.std.specs.Prelude.{◌≡◌, ◌<◌, ◌≤◌, ℕ, ◌+◌, List, ◌++◌, length, take, drop}
use Rattle.byteorder.specs.Endian.{little_bytes, little_number}
use Rattle.base_bytes.specs.declared.Past.{Past}

-- the bytes at a place
abbrev pub bytes_at : ℕ → ℕ → List ℕ → List ℕ
bytes_at at width bytes = take width (drop at bytes)

-- the number that the bytes at a place spell
abbrev pub number_at : ℕ → ℕ → List ℕ → ℕ
number_at at width bytes = little_number width (drop at bytes)

-- the bytes with a number put at a place, all others as they were
abbrev pub with_number : ℕ → ℕ → ℕ → List ℕ → List ℕ
with_number at width value bytes = take at bytes ++ little_bytes width value ++ drop (at + width) bytes

-- the field lies within the bytes, they read as this number there, and they are its spelling
pub record HasNumber (at width : ℕ) (bytes : List ℕ) (value : ℕ) : Type 0 where
  pub within : at + width ≤ length bytes
  pub number : value ≡ number_at at width bytes
  pub spelled : bytes_at at width bytes ≡ little_bytes width value

-- the field lies within the bytes, and they have the number there afterwards
pub record PutsNumber (at width value : ℕ) (old new : List ℕ) : Type 0 where
  pub within : at + width ≤ length old
  pub put : new ≡ with_number at width value old

-- the field ends past so many bytes, and this says which field
pub record EndsPast (at width len : ℕ) (past : Past) : Type 0 where
  pub beyond : len < at + width
  pub place : past ≡ record { at = at; width = width }
