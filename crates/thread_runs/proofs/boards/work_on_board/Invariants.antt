use Rattle.std.proofs.Common.{[], ◌∷◌}
use Rattle.thread_runs.specs.Ran.{IsSpokenOf, counts_of}
use Rattle.thread_runs.proofs.boards.work_on_board.Given as goal

-- the board's run is the one that is spoken of
abbrev pub ghosts-on_board-B-Board : goal.ghosts-on_board-B-Board
ghosts-on_board-B-Board g a = record {
  begin = g.b;
  terms = record { counts = counts_of g.D.Disk a.opening.kernel; told = IsSpokenOf g.D.Disk g.b a.opening.kernel };
  store_table = a.opening.stores;
  first_stores = a.opening.kernel.parts.store ∷ [];
}

abbrev pub ghosts-on_board-B-Bond : goal.ghosts-on_board-B-Bond
ghosts-on_board-B-Bond g a = record { values_table = a.opening.cells; first_values = a.opening.kernel.parts.cells }

abbrev pub ghosts-on_board-B-Run : goal.ghosts-on_board-B-Run
ghosts-on_board-B-Run g a = record { table = a.opening.history; kept = a.opening.kernel.parts.noted.entries }

abbrev pub ghosts-on_board-B-Bench : goal.ghosts-on_board-B-Bench
ghosts-on_board-B-Bench g a = record { slate = a.opening.slate; all = 1 }

abbrev pub ghosts-on_board-B-Ledger : goal.ghosts-on_board-B-Ledger
ghosts-on_board-B-Ledger g a = record { name = a.opening.ledger; parts = 1 }

abbrev pub ghost-on_board : goal.ghost-on_board
ghost-on_board g a = g.b
