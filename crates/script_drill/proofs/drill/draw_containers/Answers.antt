-- No container is drawn at first, and each turn draws one more.
use Rattle.script_types.specs.Scripts.{container_of}
use Rattle.script_drill.proofs.Each.{SoFar-begun, SoFar-map_more}
use Rattle.script_drill.proofs.drill.draw_containers.Goals as goal

pub loop-c-init : goal.loop-c-init
loop-c-init c = SoFar-begun _ _ _ (Rattle.std.proofs.Common.ap (λ xs. Rattle.std.proofs.Common.map container_of xs) c.new-tables.ensures.items)

pub loop-c-preserved : goal.loop-c-preserved
loop-c-preserved c = SoFar-map_more container_of _ _ _ _ _ _ _ _ c.loop-c.invariant c.in_ok-push.ensures.items c.in_ok-draw_container.ensures.value c.in_ok-draw_container.ensures.left
