use Rattle.node_world.proofs.Rounds.{all_acked, drawn_raises, holds_rounds, rounds_stay}
use Rattle.node_world.proofs.round_law.Goals as goal

pub returns-clause-raises : goal.returns-clause-raises
returns-clause-raises g c made w d h some none = drawn_raises made w h.acked some d none

pub returns-clause-holds : goal.returns-clause-holds
returns-clause-holds g c made w ds h = holds_rounds made ds w h

pub returns-clause-falls : goal.returns-clause-falls
returns-clause-falls g c made w ds h = (rounds_stay made ds w h).1

pub returns-clause-offered : goal.returns-clause-offered
returns-clause-offered g c made w ds h = (rounds_stay made ds w h).0

pub returns-clause-all : goal.returns-clause-all
returns-clause-all g c made w ds h enough = all_acked made ds w h enough
