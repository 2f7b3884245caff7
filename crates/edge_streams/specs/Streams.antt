-- What a take does to the bytes that are left in a source, and a put to those that a sink holds, where they are told.
use Rattle.std.specs.Prelude.{◌≡◌, ◌↔◌, ℕ, List, [], take, ⊤, Option, None, Some, Result, MatchResult}
use Rattle.std.specs.Io.KnownBytes.{Keeps, Appends, Consumes}

-- a take gave 0 bytes exactly where none was left
abbrev pub IsZeroAtEnd : ℕ → Option (List ℕ) → Type 0
IsZeroAtEnd n None = ⊤
IsZeroAtEnd n (Some bytes) = (n ≡ 0) ↔ (bytes ≡ [])

-- `take(out)` moved the n bytes that were left first into the front of out at `Ok(n)`, and took nothing at `Err`
abbrev pub Takes : {E : Type 0} → Option (List ℕ) → Option (List ℕ) → Result ℕ E → List ℕ → Type 0
Takes before after result out = MatchResult result (λ n. Consumes before after (take n out) × IsZeroAtEnd n before) (λ _. Keeps before after)

-- what is held grew by a prefix of these bytes
pub record AppendsPart (before after : Option (List ℕ)) (bytes : List ℕ) : Type 0 where
  pub count : ℕ
  pub grew : Appends before after (take count bytes)

-- `put(bytes)` appended all the bytes at `Ok`, and a prefix of them at `Err`
abbrev pub Puts : {T E : Type 0} → Option (List ℕ) → Option (List ℕ) → Result T E → List ℕ → Type 0
Puts before after result bytes = MatchResult result (λ _. Appends before after bytes) (λ _. AppendsPart before after bytes)
