use Rattle.thread_board.proofs.Holding.{commits_hold, few_hold, items_hold, numbers_hold, written_hold}
use Rattle.thread_board.proofs.laws.rule_law.Goals as goal

pub returns-clause-commits : goal.returns-clause-commits
returns-clause-commits g c = commits_hold g.C.Line.stops

pub returns-clause-items : goal.returns-clause-items
returns-clause-items g c = items_hold g.C.Line.stops

pub returns-clause-numbers : goal.returns-clause-numbers
returns-clause-numbers g c = numbers_hold g.C.Line.stops

pub returns-clause-writers : goal.returns-clause-writers
returns-clause-writers g c = written_hold g.C.Line.stops

pub returns-clause-few : goal.returns-clause-few
returns-clause-few g c = few_hold g.C.Line.stops
