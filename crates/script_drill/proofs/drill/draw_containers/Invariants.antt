-- The containers so far are drawn.
use Rattle.std.proofs.Common.{map}
use Rattle.script_types.specs.Scripts.{container_of}
use Rattle.script_drill.specs.Draws.{words_of}
use Rattle.script_drill.specs.Drill.{container}
use Rattle.script_drill.proofs.Each.{SoFar}
use Rattle.script_drill.proofs.drill.draw_containers.Given as goal

abbrev pub invariant-loop-c : goal.invariant-loop-c
invariant-loop-c l = SoFar container l.c (words_of l.initial.words) (map container_of l.tables.items) (words_of l.words)
