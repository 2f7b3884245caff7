-- Fields of a text of bytes: what spells a value, what follows it, and where the bytes are refused.
use Rattle.std.specs.Prelude.{◌≡◌, ℕ, zero, suc, ◌≤◌, List, [], ◌∷◌, ◌++◌}
use Rattle.byteorder.specs.Endian.{little_bytes}
use Rattle.blob_grammar.specs.Places.{Begins}

-- GRAMMARS. A field says which bytes spell which value; a set of spellings leaves the value out.

-- the bytes spell some value
pub record Spells {A : Type 0} (Field : A → List ℕ → Type 0) (bytes : List ℕ) : Type 0 where
  pub value : A
  pub spelled : Field value bytes

-- a field, and behind it what may follow its value
pub record Then {A : Type 0} (Field : A → List ℕ → Type 0) (Rest : A → List ℕ → Type 0) (bytes : List ℕ) : Type 0 where
  pub value : A
  pub front : List ℕ
  pub behind : List ℕ
  pub spelled : Field value front
  pub followed : Rest value behind
  pub is : bytes ≡ front ++ behind

-- a number of this width that is neither below the one nor above the other
pub record IsNumberIn (width least most number : ℕ) (bytes : List ℕ) : Type 0 where
  pub low : least ≤ number
  pub high : number ≤ most
  pub is : bytes ≡ little_bytes width number

-- a byte that is neither below the one nor above the other
pub record IsByteIn (least most byte : ℕ) (bytes : List ℕ) : Type 0 where
  pub low : least ≤ byte
  pub high : byte ≤ most
  pub is : bytes ≡ byte ∷ []

-- so many items from a state on: what an item may be rests on the state and on how many follow it
abbrev pub Items : {S A : Type 0} → (S → ℕ → A → List ℕ → Type 0) → (S → A → S) → ℕ → S → List A → List ℕ → Type 0
Items Item next zero s vs y = (vs ≡ []) × (y ≡ [])
Items Item next (suc n) s [] y = ⊥
Items Item next (suc n) s (v ∷ vs) y = (a : List ℕ) × (b : List ℕ) × Item s n v a × Items Item next n (next s v) vs b × (y ≡ a ++ b)

-- WHERE BYTES ARE REFUSED

-- these bytes may stand where those stood: they begin with the same one, or both end
abbrev pub GoesOnAs : List ℕ → List ℕ → Type 0
GoesOnAs [] bytes = bytes ≡ []
GoesOnAs (b ∷ behind) bytes = (rest : List ℕ) × (bytes ≡ b ∷ rest)

-- The front begins a spelling. No spelling, whatever follows it, goes on behind the front with the byte that stands there, or ends
-- before bytes that end there.
pub record IsStuck (Spelled : List ℕ → Type 0) (front behind : List ℕ) : Type 0 where
  pub begins : Begins Spelled front
  pub stops : (whole more rest : List ℕ) → Spelled whole → whole ++ more ≡ front ++ rest → GoesOnAs behind rest → ⊥

-- WHAT A READER TELLS

-- the bytes begin with a spelling of the value, and the rest follows it
pub record IsFound {A : Type 0} (Field : A → List ℕ → Type 0) (bytes : List ℕ) (value : A) (rest : List ℕ) : Type 0 where
  pub front : List ℕ
  pub spelled : Field value front
  pub is : bytes ≡ front ++ rest

-- from here on the bytes are refused
pub record IsRefused (Spelled : List ℕ → Type 0) (bytes behind : List ℕ) : Type 0 where
  pub front : List ℕ
  pub stuck : IsStuck Spelled front behind
  pub is : bytes ≡ front ++ behind
