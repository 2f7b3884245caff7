use Rattle.std.specs.Prelude.{All}
use Rattle.base_types.specs.Instructions.{IsInstruction}
use Rattle.test_acts.proofs.programs.program.Given as goal

abbrev pub invariant-loop : goal.invariant-loop
invariant-loop l = All IsInstruction l.code.items
