-- No locus is drawn at first, and each turn draws one more.
use Rattle.script_types.specs.Scripts.{locus_of}
use Rattle.script_drill.proofs.Each.{SoFar-begun, SoFar-map_more}
use Rattle.script_drill.proofs.drill.draw_loci.Goals as goal

pub loop-l-init : goal.loop-l-init
loop-l-init c = SoFar-begun _ _ _ (Rattle.std.proofs.Common.ap (λ xs. Rattle.std.proofs.Common.map locus_of xs) c.new-tables.ensures.items)

pub loop-l-preserved : goal.loop-l-preserved
loop-l-preserved c = SoFar-map_more locus_of _ _ _ _ _ _ _ _ c.loop-l.invariant c.in_ok-push.ensures.items c.in_ok-draw_locus.ensures.value c.in_ok-draw_locus.ensures.left
