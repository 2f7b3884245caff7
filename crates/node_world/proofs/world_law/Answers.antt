use Rattle.node_world.proofs.Events.{world_acked, world_front, world_made, world_offered}
use Rattle.node_world.proofs.world_law.Goals as goal

pub returns-clause-front : goal.returns-clause-front
returns-clause-front g c made events = world_front made events

pub returns-clause-acked : goal.returns-clause-acked
returns-clause-acked g c made events = world_acked made events

pub returns-clause-offered : goal.returns-clause-offered
returns-clause-offered g c made events = world_offered made events

pub returns-clause-made : goal.returns-clause-made
returns-clause-made g c made events = world_made made events
