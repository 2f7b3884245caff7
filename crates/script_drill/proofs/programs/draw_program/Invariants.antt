-- The instructions so far are drawn.
use Rattle.script_drill.specs.Draws.{words_of}
use Rattle.script_drill.specs.Drill.{instruction}
use Rattle.script_drill.proofs.Each.{SoFar}
use Rattle.script_drill.proofs.programs.draw_program.Given as goal

abbrev pub invariant-loop : goal.invariant-loop
invariant-loop l = SoFar (λ _. instruction) l.counter (words_of l.initial.words) l.code.items (words_of l.words)
