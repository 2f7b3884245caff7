-- The spelling of instructions.
use Rattle.std.specs.Prelude.{◌≡◌, ℕ, Bool, true, not, ◌&&◌, ◌+◌, ◌<◌, ◌≤◌, ◌^◌, length, take, ◌==◌, ◌/◌, ◌%◌, if◌then◌else◌, List, [], ◌∷◌, ◌++◌, Option, Some, None, codes}
use Rattle.std.specs.List.{flat_map, list_any}
use Rattle.std.specs.Fmt.{decimal}
use Rattle.base_types.specs.declared.instructions.Instr.{Instr}
use Rattle.base_types.specs.declared.instructions.Instr.TheVariants.{Set, Copy, Add, Sub, Jump, Jz, Load, Store, Invoke, Leave, Return, Map, Unmap, Lmap, Lunmap, Take, Give, Drop, Make, Spawn, Stop, Go, Snap, Stabilise, Print, Halt}
use Rattle.base_types.specs.Instructions.{IsInstruction}
use Rattle.base_instructions.specs.Fronts.{Spelled}

abbrev pub register : ℕ → List ℕ
register r = codes "r" ++ decimal r

abbrev pub place : ℕ → List ℕ
place p = codes "@" ++ decimal p

-- a place, or a dash for none
abbrev pub entry : Option ℕ → List ℕ
entry None = codes "-"
entry (Some p) = place p

-- the letters at whose bits the set has a 1, the lowest bit first
abbrev pub letters_of : List ℕ → ℕ → List ℕ
letters_of [] set = []
letters_of (letter ∷ letters) set = if set % 2 == 1 then letter ∷ letters_of letters (set / 2) else letters_of letters (set / 2)

-- the letters differ from each other
abbrev pub differ : List ℕ → Bool
differ [] = true
differ (letter ∷ letters) = not (list_any (λ other. other == letter) letters) && differ letters

-- the letters of a set of rights in the order of their bits, or a dash for the empty set
abbrev pub rights : ℕ → List ℕ
rights set = if set == 0 then codes "-" else letters_of (codes "rwimcskt") set

-- n bytes, and no more, begin the letters of a set, and are those of this one
pub record ReadsLetters (letters bytes : List ℕ) (n set : ℕ) : Type 0 where
  pub small : set < 2 ^ length letters
  pub within : n ≤ length bytes
  pub spelled : letters_of letters set ≡ take n bytes
  pub no_more : n < length bytes → (other : ℕ) (rest : List ℕ) → letters_of letters other ≡ take (n + 1) bytes ++ rest → ⊥

-- a word and its operands, with a blank before each
abbrev pub phrase : List ℕ → List (List ℕ) → List ℕ
phrase word operands = word ++ flat_map (λ operand. 32 ∷ operand) operands

abbrev pub spelling : Instr → List ℕ
spelling (Set d n) = phrase (codes "set") (register d ∷ decimal n ∷ [])
spelling (Copy d s) = phrase (codes "copy") (register d ∷ register s ∷ [])
spelling (Add d s) = phrase (codes "add") (register d ∷ register s ∷ [])
spelling (Sub d s) = phrase (codes "sub") (register d ∷ register s ∷ [])
spelling (Jump p) = phrase (codes "jump") (place p ∷ [])
spelling (Jz s p) = phrase (codes "jz") (register s ∷ place p ∷ [])
spelling (Load d a) = phrase (codes "load") (register d ∷ register a ∷ [])
spelling (Store a s) = phrase (codes "store") (register a ∷ register s ∷ [])
spelling (Invoke c) = phrase (codes "invoke") (register c ∷ [])
spelling (Leave c) = phrase (codes "leave") (register c ∷ [])
spelling Return = phrase (codes "return") []
spelling (Map d a c b n access) = phrase (codes "map") (register d ∷ register a ∷ register c ∷ register b ∷ register n ∷ rights access.0 ∷ [])
spelling (Unmap d a) = phrase (codes "unmap") (register d ∷ register a ∷ [])
spelling (Lmap a c b n access) = phrase (codes "lmap") (register a ∷ register c ∷ register b ∷ register n ∷ rights access.0 ∷ [])
spelling (Lunmap a) = phrase (codes "lunmap") (register a ∷ [])
spelling (Take d c y) = phrase (codes "take") (register d ∷ register c ∷ register y ∷ [])
spelling (Give d c s given) = phrase (codes "give") (register d ∷ register c ∷ register s ∷ rights given.0 ∷ [])
spelling (Drop s) = phrase (codes "drop") (register s ∷ [])
spelling (Make d n t e) = phrase (codes "make") (register d ∷ register n ∷ register t ∷ entry e ∷ [])
spelling (Spawn d p) = phrase (codes "spawn") (register d ∷ place p ∷ [])
spelling (Stop c) = phrase (codes "stop") (register c ∷ [])
spelling (Go c) = phrase (codes "go") (register c ∷ [])
spelling (Snap c) = phrase (codes "snap") (register c ∷ [])
spelling (Stabilise c) = phrase (codes "stabilise") (register c ∷ [])
spelling (Print s) = phrase (codes "print") (register s ∷ [])
spelling Halt = phrase (codes "halt") []

-- the bytes are the spelling of an instruction
abbrev pub IsSpelling : List ℕ → Type 0
IsSpelling = Spelled IsInstruction spelling
