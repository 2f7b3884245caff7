-- Sets of byte strings, and how far a text goes on as one of them.
use Rattle.std.specs.Prelude.{◌≡◌, ℕ, ◌+◌, ◌<◌, ◌≤◌, List, [], ◌++◌, length, take, Option, None, Some, MatchOption}
use Rattle.std.specs.Fmt.{decimal}

-- the bytes spell some valid value
abbrev pub Spelled : {V : Type 0} → (V → Type 0) → (V → List ℕ) → List ℕ → Type 0
Spelled {V} Valid spell bytes = (v : V) × Valid v × (spell v ≡ bytes)

-- some member of the set begins with these bytes
abbrev pub Begins : (List ℕ → Type 0) → List ℕ → Type 0
Begins Set front = (rest : List ℕ) × Set (front ++ rest)

-- n bytes, and no more, begin a member of the set
pub record IsLongestFront (Set : List ℕ → Type 0) (bytes : List ℕ) (n : ℕ) : Type 0 where
  pub within : n ≤ length bytes
  pub goes_on : Begins Set (take n bytes)
  pub no_more : n < length bytes → Begins Set (take (n + 1) bytes) → ⊥

-- the first byte at which no member of the set goes on, or the end where more is wanted
pub record IsBadPlace (Set : List ℕ → Type 0) (bytes : List ℕ) (n : ℕ) : Type 0 where
  pub front : IsLongestFront Set bytes n
  pub incomplete : n ≡ length bytes → Set bytes → ⊥

-- the longest front of the bytes that begins the spelling of a valid value, and the value that it spells whole
pub record Reads {V : Type 0} (Valid : V → Type 0) (spell : V → List ℕ) (bytes : List ℕ) (n : ℕ) (value : Option V) : Type 0 where
  pub front : IsLongestFront (Spelled Valid spell) bytes n
  pub whole : MatchOption value (Spelled Valid spell (take n bytes) → ⊥) (λ v. Valid v × (spell v ≡ take n bytes))

-- the digits of the number that was read so far, if any
abbrev pub digits_read : Option ℕ → List ℕ
digits_read None = []
digits_read (Some n) = decimal n
