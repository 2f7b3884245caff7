use Rattle.node_draws.proofs.Courses.{all_made, lossless, order_round}
use Rattle.node_draws.proofs.course_law.Goals as goal

pub returns-clause-order : goal.returns-clause-order
returns-clause-order c loss offered t order = order_round loss offered t order

pub returns-clause-lossless : goal.returns-clause-lossless
returns-clause-lossless c offered many t order enough = lossless offered many t order enough

pub returns-clause-all_made : goal.returns-clause-all_made
returns-clause-all_made c loss offered many before t order lt short = all_made loss offered many before t order lt short
