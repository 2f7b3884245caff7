-- The capabilities so far are drawn.
use Rattle.std.proofs.Common.{map}
use Rattle.script_types.specs.Scripts.{cap_of}
use Rattle.script_drill.specs.Draws.{words_of}
use Rattle.script_drill.specs.Drill.{cap_on}
use Rattle.script_drill.proofs.Each.{SoFar}
use Rattle.script_drill.proofs.tables.draw_caps.Given as goal

abbrev pub invariant-loop-c : goal.invariant-loop-c
invariant-loop-c l = SoFar cap_on l.c (words_of l.initial.words) (map cap_of l.caps.items) (words_of l.words)
