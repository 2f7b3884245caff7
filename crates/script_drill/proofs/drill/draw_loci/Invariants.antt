-- The loci so far are drawn.
use Rattle.std.proofs.Common.{map}
use Rattle.script_types.specs.Scripts.{locus_of}
use Rattle.script_drill.specs.Draws.{words_of}
use Rattle.script_drill.specs.Drill.{locus}
use Rattle.script_drill.proofs.Each.{SoFar}
use Rattle.script_drill.proofs.drill.draw_loci.Given as goal

abbrev pub invariant-loop-l : goal.invariant-loop-l
invariant-loop-l l = SoFar locus l.l (words_of l.initial.words) (map locus_of l.tables.items) (words_of l.words)
