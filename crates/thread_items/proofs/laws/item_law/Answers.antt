use Rattle.thread_items.proofs.Truths.{item_behind, item_goes_on}
use Rattle.thread_items.proofs.laws.item_law.Goals as goal

pub returns-clause-follows : goal.returns-clause-follows
returns-clause-follows g c = item_goes_on g.B.Board.terms.told

pub returns-clause-stops : goal.returns-clause-stops
returns-clause-stops g c = item_behind g.B.Board.terms.told
