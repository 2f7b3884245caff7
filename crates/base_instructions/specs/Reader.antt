-- Lines of code and the instructions that they spell.
use Rattle.std.specs.Prelude.{◌≡◌, ℕ, ◌+◌, ◌*◌, ◌^◌, codes, Bool, true, false, ◌&&◌, ◌==◌, nat_lt, nat_le, if◌then◌else◌, List, [], ◌∷◌, ◌++◌, length, map, drop, Option, Some, None, MatchOption, unwrap_or, option_and_then, bytes_eq}
use Rattle.std.specs.List.{position_or_len, before_first}
use Rattle.std.specs.Str.Parse.{digits_value}
use Rattle.base_types.specs.declared.instructions.Instr.{Instr}
use Rattle.base_types.specs.Instructions.{IsInstruction}
use Rattle.base_instructions.specs.Forms.{Row, rows, word_at, kinds_at, build_at, tail}
use Rattle.base_instructions.specs.Spelling.{spelling, IsSpelling}
use Rattle.base_instructions.specs.declared.forms.OperandKind.{OperandKind}
use Rattle.base_instructions.specs.declared.forms.OperandKind.TheVariants.{Register, Number, Place, Access, Rights, Entry}
use Rattle.base_instructions.specs.declared.forms.Operand.{Operand}
use Rattle.base_instructions.specs.declared.forms.Operand.TheVariants as operand

-- `spelled` gives the instruction that a text spells, and nothing for a text that spells none
abbrev pub IsReader : (List ℕ → Option Instr) → Type 0
IsReader spelled = (text : List ℕ) → MatchOption (spelled text) (¬ (IsSpelling text)) (λ i. IsInstruction i × (spelling i ≡ text))

-- RIGHTS

-- the set of a text's letters, which stand in the order of these letters; `bit` is the first letter's
abbrev pub letters_set : List ℕ → ℕ → ℕ → List ℕ → Option ℕ
letters_set letters bit set [] = Some set
letters_set [] bit set (b ∷ text) = None
letters_set (l ∷ letters) bit set (b ∷ text) = if b == l then letters_set letters (2 * bit) (set + bit) text else letters_set letters (2 * bit) set (b ∷ text)

-- the set that is spelled by letters in the order of their bits, or by a dash
abbrev pub rights_of : List ℕ → Option ℕ
rights_of [] = None
rights_of (b ∷ text) = if b == 45 && length text == 0 then Some 0 else letters_set (codes "rwimcskt") 1 0 (b ∷ text)

-- A READER. Its parts take any text, and the whole line is compared at the end.

abbrev pub is_blank : ℕ → Bool
is_blank b = b == 32

-- what stands before the first blank, and from it on
abbrev pub front_word : List ℕ → List ℕ
front_word text = before_first is_blank text

abbrev pub behind_word : List ℕ → List ℕ
behind_word text = drop (position_or_len is_blank text) text

abbrev pub operand_in : OperandKind → List ℕ → Operand
operand_in Register text = operand.Register (digits_value 10 (drop 1 text))
operand_in Number text = operand.Number (digits_value 10 text)
operand_in Place text = operand.Place (digits_value 10 (drop 1 text))
operand_in Access text = operand.Rights (record { 0 = unwrap_or (rights_of text) 0 })
operand_in Rights text = operand.Rights (record { 0 = unwrap_or (rights_of text) 0 })
operand_in Entry text = operand.Entry (if length text == 1 then None else Some (digits_value 10 (drop 1 text)))

-- operands of these kinds, with a blank before each
abbrev pub operands_in : List OperandKind → List ℕ → List Operand
operands_in [] text = []
operands_in (k ∷ ks) text = operand_in k (front_word (drop 1 text)) ∷ operands_in ks (behind_word (drop 1 text))

abbrev pub is_entry : Option ℕ → Bool
is_entry None = true
is_entry (Some p) = nat_lt p 128

abbrev pub is_operand : OperandKind → Operand → Bool
is_operand Register (operand.Register r) = nat_lt r 8
is_operand Number (operand.Number n) = nat_lt n (2 ^ 64)
is_operand Place (operand.Place p) = nat_lt p 128
is_operand Access (operand.Rights set) = nat_le 1 set.0 && nat_lt set.0 4
is_operand Rights (operand.Rights set) = nat_lt set.0 256
is_operand Entry (operand.Entry e) = is_entry e
is_operand _ _ = false

abbrev pub are_operands : List OperandKind → List Operand → Bool
are_operands [] [] = true
are_operands (k ∷ ks) (o ∷ os) = is_operand k o && are_operands ks os
are_operands _ _ = false

-- the instruction of this form, if the text is its spelling
abbrev pub formed : List ℕ → ℕ → List Operand → Option Instr
formed text code os = if are_operands (kinds_at code) os && bytes_eq (word_at code ++ tail os) text then Some (build_at code os) else None

abbrev pub words : List (List ℕ)
words = map (λ (r : Row). r.word) rows

-- where a word stands in a list, counted from n
abbrev pub place_of : List ℕ → List (List ℕ) → ℕ → Option ℕ
place_of word [] n = None
place_of word (w ∷ ws) n = if bytes_eq word w then Some n else place_of word ws (n + 1)

-- the instruction that a text spells
abbrev pub instr_of : List ℕ → Option Instr
instr_of text = option_and_then (λ code. formed text code (operands_in (kinds_at code) (behind_word text))) (place_of (front_word text) words 0)
