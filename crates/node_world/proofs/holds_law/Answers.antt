use Rattle.node_world.proofs.Events.{holds_more, holds_next, starts}
use Rattle.node_world.proofs.holds_law.Goals as goal

pub returns-clause-start : goal.returns-clause-start
returns-clause-start g c made = starts made

pub returns-clause-next : goal.returns-clause-next
returns-clause-next g c made w e h = holds_next made w e h

pub returns-clause-more : goal.returns-clause-more
returns-clause-more g c made more w h = holds_more made w more h
