use Rattle.table_opened.proofs.AllCells.{holds_none, none_held}
use Rattle.table_opened.proofs.laws.no_blocks_law.Goals as goal

pub returns-clause-none_held : goal.returns-clause-none_held
returns-clause-none_held c = none_held

pub returns-clause-holds : goal.returns-clause-holds
returns-clause-holds c = holds_none
