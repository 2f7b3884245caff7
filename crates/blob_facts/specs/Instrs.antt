-- The fields of an instruction: which values each may have, by the instruction's code, and what they stand for.
use Rattle.std.specs.Prelude.{◌≡◌, ℕ, ◌-◌, ◌≤◌, ◌^◌, ◌==◌, ◌||◌, nat_lt, if◌then◌else◌, slice_index, List, [], ◌∷◌, Option, Some, None, ◌⊎◌}
use Rattle.byteorder.specs.Endian.{little_bytes}
use Rattle.act_atlas_laws.specs.base_types.declared.instructions.Instr.{Instr}
use Rattle.act_atlas_laws.specs.base_types.declared.instructions.Instr.TheVariants.{Set, Copy, Add, Sub, Jump, Jz, Load, Store, Invoke, Leave, Return, Map, Unmap, Lmap, Lunmap, Take, Give, Drop, Make, Spawn, Stop, Go, Snap, Stabilise, Print, Halt}

-- the code of the instruction that may name no place
abbrev pub make_code : ℕ
make_code = 18

-- how many registers the instruction of each code names
abbrev pub register_counts : List ℕ
register_counts = 1 ∷ 2 ∷ 2 ∷ 2 ∷ 0 ∷ 1 ∷ 2 ∷ 2 ∷ 1 ∷ 1 ∷ 0 ∷ 5 ∷ 2 ∷ 4 ∷ 1 ∷ 3 ∷ 3 ∷ 1 ∷ 3 ∷ 1 ∷ 1 ∷ 1 ∷ 1 ∷ 1 ∷ 1 ∷ 0 ∷ []

-- the greatest register at a place of the five
abbrev pub most_register : ℕ → ℕ → ℕ
most_register code place = if nat_lt place (slice_index register_counts code) then 7 else 0

abbrev pub least_rights : ℕ → ℕ
least_rights code = if code == 11 || code == 13 then 1 else 0

abbrev pub most_rights : ℕ → ℕ
most_rights code = if code == 11 || code == 13 then 3 else (if code == 16 then 255 else 0)

-- the greatest number; the number for no place aside
abbrev pub most_number : ℕ → ℕ
most_number code = if code == 0 then 2 ^ 64 - 1 else (if code == 4 || code == 5 || code == make_code || code == 19 then 127 else 0)

abbrev pub IsOperand : ℕ → ℕ → Type 0
IsOperand code number = (number ≤ most_number code) ⊎ ((code ≡ make_code) × (number ≡ 2 ^ 64 - 1))

-- the number of an instruction of this code
pub record IsOperandSpelled (code number : ℕ) (bytes : List ℕ) : Type 0 where
  pub good : IsOperand code number
  pub is : bytes ≡ little_bytes 8 number

abbrev pub entry_of : ℕ → Option ℕ
entry_of number = if number == 2 ^ 64 - 1 then None else Some number

-- the instruction of these fields
abbrev pub built : (code a b c d e rights n : ℕ) → Instr
built code a b c d e rights n =
    if code == 0 then Set a n
    else if code == 1 then Copy a b
    else if code == 2 then Add a b
    else if code == 3 then Sub a b
    else if code == 4 then Jump n
    else if code == 5 then Jz a n
    else if code == 6 then Load a b
    else if code == 7 then Store a b
    else if code == 8 then Invoke a
    else if code == 9 then Leave a
    else if code == 10 then Return
    else if code == 11 then Map a b c d e (record { 0 = rights })
    else if code == 12 then Unmap a b
    else if code == 13 then Lmap a b c d (record { 0 = rights })
    else if code == 14 then Lunmap a
    else if code == 15 then Take a b c
    else if code == 16 then Give a b c (record { 0 = rights })
    else if code == 17 then Drop a
    else if code == 18 then Make a b c (entry_of n)
    else if code == 19 then Spawn a n
    else if code == 20 then Stop a
    else if code == 21 then Go a
    else if code == 22 then Snap a
    else if code == 23 then Stabilise a
    else if code == 24 then Print a
    else Halt
