-- The ranges of instructions' operands.
use Rattle.std.specs.Prelude.{ℕ, ◌<◌, ◌^◌, ◌≤◌, IfSome}
use Rattle.base_types.specs.declared.instructions.Instr.{Instr}
use Rattle.base_types.specs.declared.instructions.Instr.TheVariants.{Set, Copy, Add, Sub, Jump, Jz, Load, Store, Invoke, Leave, Return, Map, Unmap, Lmap, Lunmap, Take, Give, Drop, Make, Spawn, Stop, Go, Snap, Stabilise, Print, Halt}

abbrev pub IsRegister : ℕ → Type 0
IsRegister r = r < 8

abbrev pub IsPlace : ℕ → Type 0
IsPlace p = p < 128

-- Read, Write or both
abbrev pub IsAccess : ℕ → Type 0
IsAccess rights = (1 ≤ rights) × (rights < 4)

-- registers are below 8, places below 128, and the rights of a mapping are Read, Write or both
abbrev pub IsInstruction : Instr → Type 0
IsInstruction (Set d n) = IsRegister d × (n < 2 ^ 64)
IsInstruction (Copy d s) = IsRegister d × IsRegister s
IsInstruction (Add d s) = IsRegister d × IsRegister s
IsInstruction (Sub d s) = IsRegister d × IsRegister s
IsInstruction (Jump p) = IsPlace p
IsInstruction (Jz s p) = IsRegister s × IsPlace p
IsInstruction (Load d a) = IsRegister d × IsRegister a
IsInstruction (Store a s) = IsRegister a × IsRegister s
IsInstruction (Invoke c) = IsRegister c
IsInstruction (Leave c) = IsRegister c
IsInstruction Return = Unit {0}
IsInstruction (Map d a c b n rights) = IsRegister d × IsRegister a × IsRegister c × IsRegister b × IsRegister n × IsAccess rights.0
IsInstruction (Unmap d a) = IsRegister d × IsRegister a
IsInstruction (Lmap a c b n rights) = IsRegister a × IsRegister c × IsRegister b × IsRegister n × IsAccess rights.0
IsInstruction (Lunmap a) = IsRegister a
IsInstruction (Take d c y) = IsRegister d × IsRegister c × IsRegister y
IsInstruction (Give d c s rights) = IsRegister d × IsRegister c × IsRegister s × (rights.0 < 2 ^ 8)
IsInstruction (Drop s) = IsRegister s
IsInstruction (Make d n t entry) = IsRegister d × IsRegister n × IsRegister t × IfSome entry IsPlace
IsInstruction (Spawn d p) = IsRegister d × IsPlace p
IsInstruction (Stop c) = IsRegister c
IsInstruction (Go c) = IsRegister c
IsInstruction (Snap c) = IsRegister c
IsInstruction (Stabilise c) = IsRegister c
IsInstruction (Print s) = IsRegister s
IsInstruction Halt = Unit {0}
