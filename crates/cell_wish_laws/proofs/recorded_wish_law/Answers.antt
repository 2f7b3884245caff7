use Rattle.cell_wish_laws.proofs.Recorded.{other_wish, settled_wish, snap_wish, stable_wish, state_stays}
use Rattle.cell_wish_laws.proofs.recorded_wish_law.Goals as goal

pub returns-clause-state : goal.returns-clause-state
returns-clause-state c s script r e mark = state_stays s script r e mark

pub returns-clause-snap : goal.returns-clause-snap
returns-clause-snap c s script r e words steps before after event actor cell has now = snap_wish s script r e words steps before after event actor cell has now

pub returns-clause-others : goal.returns-clause-others
returns-clause-others c s script r e steps cell event apart has = other_wish s script r e steps cell event apart has

pub returns-clause-stable : goal.returns-clause-stable
returns-clause-stable c s script r e words steps before after event cell has now = stable_wish s script r e words steps before after event cell has now

pub returns-clause-settled : goal.returns-clause-settled
returns-clause-settled c s script r e words steps cell event there has founded same = settled_wish s script r e words steps cell event there has founded same
