-- The table of forms, and operands with their values.
use Rattle.std.specs.Prelude.{◌≡◌, ℕ, ◌<◌, ◌^◌, List, [], ◌∷◌, ◌++◌, codes, slice_get, slice_index_or, Option, Some, None, IfSome}
use Rattle.std.specs.List.{flat_map}
use Rattle.std.specs.Fmt.{decimal}
use Rattle.base_types.specs.declared.capabilities.Rights.{Rights as RightsSet}
use Rattle.base_types.specs.declared.instructions.Instr.{Instr}
use Rattle.base_types.specs.declared.instructions.Instr.TheVariants.{Set, Copy, Add, Sub, Jump, Jz, Load, Store, Invoke, Leave, Return, Map, Unmap, Lmap, Lunmap, Take, Give, Drop, Make, Spawn, Stop, Go, Snap, Stabilise, Print, Halt}
use Rattle.base_types.specs.Instructions.{IsRegister, IsPlace, IsAccess}
use Rattle.base_instructions.specs.declared.forms.OperandKind.{OperandKind}
use Rattle.base_instructions.specs.declared.forms.OperandKind.TheVariants.{Register, Number, Place, Access, Rights, Entry}
use Rattle.base_instructions.specs.declared.forms.Operand.{Operand}
use Rattle.base_instructions.specs.declared.forms.Operand.TheVariants as operand
use Rattle.base_instructions.specs.Spelling.{register, place, entry, rights}
use Rattle.base_instructions.specs.Fronts.{Spelled}

-- the spelling of an operand
abbrev pub token : Operand → List ℕ
token (operand.Register r) = register r
token (operand.Number n) = decimal n
token (operand.Place p) = place p
token (operand.Rights set) = rights set.0
token (operand.Entry e) = entry e

-- the operand may stand at a place of this kind
abbrev pub IsOperand : OperandKind → Operand → Type 0
IsOperand Register (operand.Register r) = IsRegister r
IsOperand Number (operand.Number n) = n < 2 ^ 64
IsOperand Place (operand.Place p) = IsPlace p
IsOperand Access (operand.Rights set) = IsAccess set.0
IsOperand Rights (operand.Rights set) = set.0 < 2 ^ 8
IsOperand Entry (operand.Entry e) = IfSome e IsPlace
IsOperand _ _ = ⊥

abbrev pub AreOperands : List OperandKind → List Operand → Type 0
AreOperands [] [] = Unit {0}
AreOperands (k ∷ ks) (o ∷ os) = IsOperand k o × AreOperands ks os
AreOperands _ _ = ⊥

-- the operands with a blank before each
abbrev pub tail : List Operand → List ℕ
tail operands = flat_map (λ o. 32 ∷ token o) operands

-- the bytes spell operands of these kinds, with a blank before each
abbrev pub IsTail : List OperandKind → List ℕ → Type 0
IsTail kinds = Spelled (AreOperands kinds) tail

-- the new operands are the old ones, and behind them those that the bytes spell
abbrev pub ReadsAll : List OperandKind → List ℕ → List Operand → List Operand → Type 0
ReadsAll kinds bytes old new = (more : List Operand) × AreOperands kinds more × (tail more ≡ bytes) × (new ≡ old ++ more)

-- the operand at a place of the list, where it is of the kind that is asked for

abbrev pub register_in : Option Operand → ℕ
register_in (Some (operand.Register r)) = r
register_in _ = 0

abbrev pub number_in : Option Operand → ℕ
number_in (Some (operand.Number n)) = n
number_in _ = 0

abbrev pub place_in : Option Operand → ℕ
place_in (Some (operand.Place p)) = p
place_in _ = 0

abbrev pub rights_in : Option Operand → RightsSet
rights_in (Some (operand.Rights set)) = set
rights_in _ = record { 0 = 0 }

abbrev pub entry_in : Option Operand → Option ℕ
entry_in (Some (operand.Entry e)) = e
entry_in _ = None

-- the form of an instruction: its word, the kinds of its operands, and the instruction that operands make
pub record Row : Type 0 where
  pub word : List ℕ
  pub kinds : List OperandKind
  pub build : List Operand → Instr

abbrev pub row : List ℕ → List OperandKind → (List Operand → Instr) → Row
row w ks f = record { word = w; kinds = ks; build = f }

abbrev pub register_at : List Operand → ℕ → ℕ
register_at os n = register_in (slice_get os n)

abbrev pub number_at : List Operand → ℕ → ℕ
number_at os n = number_in (slice_get os n)

abbrev pub place_at : List Operand → ℕ → ℕ
place_at os n = place_in (slice_get os n)

abbrev pub rights_at : List Operand → ℕ → RightsSet
rights_at os n = rights_in (slice_get os n)

abbrev pub entry_at : List Operand → ℕ → Option ℕ
entry_at os n = entry_in (slice_get os n)

-- an instruction that one, two or three registers make

abbrev pub one : (ℕ → Instr) → List Operand → Instr
one f os = f (register_at os 0)

abbrev pub two : (ℕ → ℕ → Instr) → List Operand → Instr
two f os = f (register_at os 0) (register_at os 1)

abbrev pub three : (ℕ → ℕ → ℕ → Instr) → List Operand → Instr
three f os = f (register_at os 0) (register_at os 1) (register_at os 2)

-- the forms in the order of the instructions' codes
abbrev pub rows : List Row
rows =
    row (codes "set") (Register ∷ Number ∷ []) (λ os. Set (register_at os 0) (number_at os 1))
    ∷ row (codes "copy") (Register ∷ Register ∷ []) (two Copy)
    ∷ row (codes "add") (Register ∷ Register ∷ []) (two Add)
    ∷ row (codes "sub") (Register ∷ Register ∷ []) (two Sub)
    ∷ row (codes "jump") (Place ∷ []) (λ os. Jump (place_at os 0))
    ∷ row (codes "jz") (Register ∷ Place ∷ []) (λ os. Jz (register_at os 0) (place_at os 1))
    ∷ row (codes "load") (Register ∷ Register ∷ []) (two Load)
    ∷ row (codes "store") (Register ∷ Register ∷ []) (two Store)
    ∷ row (codes "invoke") (Register ∷ []) (one Invoke)
    ∷ row (codes "leave") (Register ∷ []) (one Leave)
    ∷ row (codes "return") [] (λ os. Return)
    ∷ row (codes "map") (Register ∷ Register ∷ Register ∷ Register ∷ Register ∷ Access ∷ []) (λ os. Map (register_at os 0) (register_at os 1) (register_at os 2) (register_at os 3) (register_at os 4) (rights_at os 5))
    ∷ row (codes "unmap") (Register ∷ Register ∷ []) (two Unmap)
    ∷ row (codes "lmap") (Register ∷ Register ∷ Register ∷ Register ∷ Access ∷ []) (λ os. Lmap (register_at os 0) (register_at os 1) (register_at os 2) (register_at os 3) (rights_at os 4))
    ∷ row (codes "lunmap") (Register ∷ []) (one Lunmap)
    ∷ row (codes "take") (Register ∷ Register ∷ Register ∷ []) (three Take)
    ∷ row (codes "give") (Register ∷ Register ∷ Register ∷ Rights ∷ []) (λ os. Give (register_at os 0) (register_at os 1) (register_at os 2) (rights_at os 3))
    ∷ row (codes "drop") (Register ∷ []) (one Drop)
    ∷ row (codes "make") (Register ∷ Register ∷ Register ∷ Entry ∷ []) (λ os. Make (register_at os 0) (register_at os 1) (register_at os 2) (entry_at os 3))
    ∷ row (codes "spawn") (Register ∷ Place ∷ []) (λ os. Spawn (register_at os 0) (place_at os 1))
    ∷ row (codes "stop") (Register ∷ []) (one Stop)
    ∷ row (codes "go") (Register ∷ []) (one Go)
    ∷ row (codes "snap") (Register ∷ []) (one Snap)
    ∷ row (codes "stabilise") (Register ∷ []) (one Stabilise)
    ∷ row (codes "print") (Register ∷ []) (one Print)
    ∷ row (codes "halt") [] (λ os. Halt)
    ∷ []

abbrev pub row_at : ℕ → Row
row_at code = slice_index_or rows code (row [] [] (λ os. Halt))

abbrev pub word_at : ℕ → List ℕ
word_at code = (row_at code).word

abbrev pub kinds_at : ℕ → List OperandKind
kinds_at code = (row_at code).kinds

abbrev pub build_at : ℕ → List Operand → Instr
build_at code os = (row_at code).build os

-- the code of an instruction, which is the place of its form in the table
abbrev pub code_of : Instr → ℕ
code_of (Set _ _) = 0
code_of (Copy _ _) = 1
code_of (Add _ _) = 2
code_of (Sub _ _) = 3
code_of (Jump _) = 4
code_of (Jz _ _) = 5
code_of (Load _ _) = 6
code_of (Store _ _) = 7
code_of (Invoke _) = 8
code_of (Leave _) = 9
code_of Return = 10
code_of (Map _ _ _ _ _ _) = 11
code_of (Unmap _ _) = 12
code_of (Lmap _ _ _ _ _) = 13
code_of (Lunmap _) = 14
code_of (Take _ _ _) = 15
code_of (Give _ _ _ _) = 16
code_of (Drop _) = 17
code_of (Make _ _ _ _) = 18
code_of (Spawn _ _) = 19
code_of (Stop _) = 20
code_of (Go _) = 21
code_of (Snap _) = 22
code_of (Stabilise _) = 23
code_of (Print _) = 24
code_of Halt = 25

abbrev pub r : ℕ → Operand
r n = operand.Register n

-- the operands of an instruction, in the order of the spelling
abbrev pub operands_of : Instr → List Operand
operands_of (Set d n) = r d ∷ operand.Number n ∷ []
operands_of (Copy d s) = r d ∷ r s ∷ []
operands_of (Add d s) = r d ∷ r s ∷ []
operands_of (Sub d s) = r d ∷ r s ∷ []
operands_of (Jump p) = operand.Place p ∷ []
operands_of (Jz s p) = r s ∷ operand.Place p ∷ []
operands_of (Load d a) = r d ∷ r a ∷ []
operands_of (Store a s) = r a ∷ r s ∷ []
operands_of (Invoke c) = r c ∷ []
operands_of (Leave c) = r c ∷ []
operands_of Return = []
operands_of (Map d a c b n access) = r d ∷ r a ∷ r c ∷ r b ∷ r n ∷ operand.Rights access ∷ []
operands_of (Unmap d a) = r d ∷ r a ∷ []
operands_of (Lmap a c b n access) = r a ∷ r c ∷ r b ∷ r n ∷ operand.Rights access ∷ []
operands_of (Lunmap a) = r a ∷ []
operands_of (Take d c y) = r d ∷ r c ∷ r y ∷ []
operands_of (Give d c s given) = r d ∷ r c ∷ r s ∷ operand.Rights given ∷ []
operands_of (Drop s) = r s ∷ []
operands_of (Make d n t e) = r d ∷ r n ∷ r t ∷ operand.Entry e ∷ []
operands_of (Spawn d p) = r d ∷ operand.Place p ∷ []
operands_of (Stop c) = r c ∷ []
operands_of (Go c) = r c ∷ []
operands_of (Snap c) = r c ∷ []
operands_of (Stabilise c) = r c ∷ []
operands_of (Print s) = r s ∷ []
operands_of Halt = []
