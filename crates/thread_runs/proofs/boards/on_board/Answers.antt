use Rattle.std.proofs.Common.{sym, subst}
use Rattle.kernel_runs.specs.kernel_core_facts.Kernels.{Lives, StaysClean}
use Rattle.kernel_runs.specs.kernel_run_facts.Alongs.{IsAlong}
use Rattle.thread_runs.proofs.boards.on_board.Goals as goal

-- what is asked stands behind the lifetimes of six types and nine bounds

pub named-requires-clause-tells : goal.named-requires-clause-tells
named-requires-clause-tells g c = λ told. (c.requires.1.1.1.1.1.1.1.1.1.1.1.1.1.1.1.1.1.1.1.1.1 told).0

pub named-requires-clause-run : goal.named-requires-clause-run
named-requires-clause-run g c = λ told. (c.requires.1.1.1.1.1.1.1.1.1.1.1.1.1.1.1.1.1.1.1.1.1 told).1

pub named-requires-clause-along : goal.named-requires-clause-along
named-requires-clause-along g c = λ told. (c.requires.1.1.1.1.1.1.1.1.1.1.1.1.1.1.1.1.1.1.1.1.1 told).2

pub returns-in-Err-clause-clean : goal.returns-in-Err-clause-clean
returns-in-Err-clause-clean g c = subst (StaysClean g.D.Disk g.B.Board.begin.supply) (sym c.in-Err.ensures.err.0) c.requires.1.1.1.1.1.1.1.1.1.1.1.1.1.1.1.1.1.1.1.1.0

pub returns-in-Err-clause-run : goal.returns-in-Err-clause-run
returns-in-Err-clause-run g c = λ told. subst (Lives g.D.Disk g.B.Board.begin) (sym c.in-Err.ensures.err.0) (c.requires.1.1.1.1.1.1.1.1.1.1.1.1.1.1.1.1.1.1.1.1.1 told).1

pub returns-in-Err-clause-along : goal.returns-in-Err-clause-along
returns-in-Err-clause-along g c = λ told. subst (IsAlong g.D.Disk g.B.Board.begin) (sym c.in-Err.ensures.err.0) (c.requires.1.1.1.1.1.1.1.1.1.1.1.1.1.1.1.1.1.1.1.1.1 told).2
