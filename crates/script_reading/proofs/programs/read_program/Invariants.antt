-- The lines so far are read, and the others decide.
use Rattle.std.proofs.Common.{◌≡◌, [], Option, drop, map, string_bytes}
use Rattle.base_types.specs.declared.instructions.Instr.{Instr}
use Rattle.script_types.specs.model_kernel.State.{Text}
use Rattle.toml.specs.View.{view}
use Rattle.script_meaning.specs.Fields.{each}
use Rattle.base_instructions.specs.Reader.{IsReader}
use Rattle.script_meaning.specs.Meaning.{a_line}
use Rattle.script_reading.proofs.programs.read_program.Given as goal

abbrev pub invariant-loop-line : goal.invariant-loop-line
invariant-loop-line l = (spelled : Text → Option Instr) → IsReader spelled → each (a_line spelled (string_bytes l.key)) l.code.items (drop l.line-index (map view l.lines)) ≡ each (a_line spelled (string_bytes l.key)) [] (map view l.lines)
