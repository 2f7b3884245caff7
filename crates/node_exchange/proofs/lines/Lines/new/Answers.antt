use Rattle.node_exchange.proofs.Playing.{empty_step}
use Rattle.node_exchange.proofs.lines.Lines.new.Goals as goal

pub returns-clause-step : goal.returns-clause-step
returns-clause-step c made = empty_step made c.new.result c.new-2.result.items c.new-3.result.items c.new.ensures c.new-2.ensures.items c.new-3.ensures.items
