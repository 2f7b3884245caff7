-- No program so far has the name.
use Rattle.std.proofs.Common.{◌≡◌, drop, map}
use Rattle.script_meaning.specs.Meaning.{code_named}
use Rattle.script_reading.specs.Views.{program_of}
use Rattle.script_reading.proofs.programs.code_named.Given as goal

abbrev pub invariant-loop-program : goal.invariant-loop-program
invariant-loop-program l = code_named l.name (drop l.program-index (map program_of l.programs)) ≡ code_named l.name (map program_of l.programs)
