-- The programs so far are read, and the others decide.
use Rattle.std.proofs.Common.{◌≡◌, Option, map}
use Rattle.base_types.specs.declared.instructions.Instr.{Instr}
use Rattle.script_types.specs.model_kernel.State.{Text}
use Rattle.toml.specs.View.{members_view, table_view}
use Rattle.base_instructions.specs.Reader.{IsReader}
use Rattle.script_meaning.specs.Meaning.{more_programs, programs_in}
use Rattle.script_reading.specs.Views.{program_of}
use Rattle.script_reading.proofs.programs.read_table.Given as goal

abbrev pub invariant-loop-name : goal.invariant-loop-name
invariant-loop-name l = record {
  can : (goal.iterator-loop-name).can_next l.name-iterator;
  ends : (goal.iterator-loop-name).is_finite l.name-iterator;
  rest : (spelled : Text → Option Instr) → IsReader spelled → more_programs spelled (map program_of l.programs.items) (members_view l.name-iterator) ≡ programs_in spelled (table_view l.table);
}
