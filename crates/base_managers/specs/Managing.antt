-- Managers as programs: what a script says of them, and the programs that they may have.
use Rattle.std.specs.Prelude.{◌≡◌, ℕ, ◌≤◌, ◌==◌, Bool, true, false, IsTrue, List, [], ◌∷◌, length, map, All}
use Rattle.std.specs.List.{list_any}
use Rattle.base_types.specs.Instructions.{IsInstruction}
use Rattle.base_types.specs.declared.instructions.Instr.{Instr}
use Rattle.base_types.specs.declared.instructions.Instr.TheVariants.{Set, Copy, Add, Sub, Jump, Jz, Halt}
use Rattle.base_managers.specs.declared.ScriptManager.{ScriptManager}
use Rattle.base_managers.specs.declared.ScriptManagers.{ScriptManagers}

-- PROGRAMS

-- the instructions of managers change registers and the place alone, or halt
abbrev pub is_managing : Instr → Bool
is_managing (Set d n) = true
is_managing (Copy d s) = true
is_managing (Add d s) = true
is_managing (Sub d s) = true
is_managing (Jump p) = true
is_managing (Jz s p) = true
is_managing Halt = true
is_managing i = false

-- at most 128 instructions, each in its ranges and one of a manager's
pub record IsManagerCode (code : List Instr) : Type 0 where
  pub few : length code ≤ 128
  pub each : All IsInstruction code
  pub managing : All (λ i. IsTrue (is_managing i)) code

-- MANAGERS

-- the number that it answers for, and the program that answers
pub record ManagerTable : Type 0 where
  pub number : ℕ
  pub code : List Instr

-- those of a script: the number of a supplier is a tag, that of a policy an `every`
pub record ManagerTables : Type 0 where
  pub supply : List ManagerTable
  pub policy : List ManagerTable

-- one of these has the number
abbrev pub has_number : List ManagerTable → ℕ → Bool
has_number ms number = list_any (λ (m : ManagerTable). m.number == number) ms

-- each number once
abbrev pub AreDifferent : List ManagerTable → Type 0
AreDifferent [] = Unit {0}
AreDifferent (m ∷ ms) = (has_number ms m.number ≡ false) × AreDifferent ms

pub record IsManagerTable (greatest : ℕ) (m : ManagerTable) : Type 0 where
  pub number : (1 ≤ m.number) × (m.number ≤ greatest)
  pub code : IsManagerCode m.code

-- the managers of one kind, with their greatest number
pub record AreManagerTables (greatest : ℕ) (ms : List ManagerTable) : Type 0 where
  pub few : length ms ≤ 16
  pub each : All (IsManagerTable greatest) ms
  pub different : AreDifferent ms

pub record AreScriptManagers (ms : ManagerTables) : Type 0 where
  pub supply : AreManagerTables 9223372036854775807 ms.supply
  pub policy : AreManagerTables 1000000 ms.policy

-- WHAT THE STRUCTS ARE IN THESE WORDS

abbrev pub manager_of : ScriptManager → ManagerTable
manager_of m = record { number = m.number; code = m.code.items }

abbrev pub managers_of : ScriptManagers → ManagerTables
managers_of ms = record { supply = map manager_of ms.supply.items; policy = map manager_of ms.policy.items }
