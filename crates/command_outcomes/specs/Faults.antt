-- The last line of a call that came to no good end.
use Rattle.std.specs.Prelude.{ℕ, [], ◌∷◌, ◌++◌, codes, decimal, string_bytes}
use Rattle.script_types.specs.model_kernel.State.{Text}
use Rattle.log_reading.specs.declared.faults.ReadingFault.{ReadingFault}
use Rattle.log_reading.specs.declared.faults.ReadingFault.TheVariants as reading
use Rattle.script_types.specs.declared.refusals.Refusal.{Refusal}
use Rattle.script_types.specs.declared.refusals.ScriptFault.{ScriptFault}
use Rattle.script_types.specs.declared.refusals.ScriptFault.TheVariants as script
use Rattle.script_types.specs.declared.refusals.Why.{Why}
use Rattle.script_types.specs.Refusals.{why_number}
use Rattle.command_outcomes.specs.declared.faults.Fault.{Fault}
use Rattle.command_outcomes.specs.declared.faults.Fault.TheVariants.{Usage, Script, Foreign, DiskFault, Source, Memory, NoBlocks}

-- a text and the end of the line
abbrev pub line : Text → Text
line text = text ++ 10 ∷ []

-- the front of a refusal's line: the number of what is wrong stands before the key
abbrev pub refusal_head : Why → Text
refusal_head why = codes "fault 3 " ++ decimal (why_number why) ++ codes " "

abbrev pub refusal_line : Refusal → Text
refusal_line refusal = line (refusal_head refusal.why ++ string_bytes refusal.key)

-- a status and two numbers
abbrev pub numbers_line : Text → ℕ → ℕ → Text
numbers_line front a b = line (front ++ decimal a ++ codes " " ++ decimal b)

-- `fault`, the status, and what is to be told
abbrev pub fault_line : Fault → Text
fault_line Usage = line (codes "fault 2 usage")
fault_line (Script refusal) = refusal_line refusal
fault_line (Foreign block place) = numbers_line (codes "fault 4 ") block place
fault_line DiskFault = line (codes "fault 5 disk")
fault_line Source = line (codes "fault 6 source")
fault_line Memory = line (codes "fault 8 memory")
fault_line (NoBlocks n) = numbers_line (codes "fault 9 ") n.need n.free

-- the last line where a trace goes wrong in the line of this number: the line of the entry that it wants, or `none`
abbrev pub wrong_line : ℕ → Text → Text
wrong_line number want = line (codes "fault 10 " ++ decimal number ++ codes " want " ++ want)

-- THE FAULTS OF THE CALLS BELOW

abbrev pub fault_of_script : ScriptFault → Fault
fault_of_script (script.Refused refusal) = Script refusal
fault_of_script script.Memory = Memory

abbrev pub fault_of_reading : ReadingFault → Fault
fault_of_reading (reading.Foreign bad) = Foreign bad.block bad.place
fault_of_reading reading.ReadFault = DiskFault
fault_of_reading reading.Memory = Memory
