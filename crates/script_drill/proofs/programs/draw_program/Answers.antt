-- No instruction is drawn at first, and each turn draws one more.
use Rattle.script_drill.proofs.Each.{SoFar-begun, SoFar-more}
use Rattle.script_drill.proofs.programs.draw_program.Goals as goal

pub loop-init : goal.loop-init
loop-init c = SoFar-begun _ _ _ c.new-code.ensures.items

pub loop-preserved : goal.loop-preserved
loop-preserved c = SoFar-more _ _ _ _ _ _ _ _ c.loop.invariant c.in_ok-push.ensures.items c.draw_instruction.ensures.value c.draw_instruction.ensures.left
