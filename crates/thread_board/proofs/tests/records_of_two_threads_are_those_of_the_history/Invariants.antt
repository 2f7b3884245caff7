use Rattle.std.specs.Prelude.{[]}
use Rattle.thread_board.proofs.tests.records_of_two_threads_are_those_of_the_history.Given as goal

abbrev pub ghosts-two_recorders-B-Recorded : goal.ghosts-two_recorders-B-Recorded
ghosts-two_recorders-B-Recorded g a = record { commits = λ es. es; recorded = [] }

abbrev pub ghosts-two_recorders-B-Run : goal.ghosts-two_recorders-B-Run
ghosts-two_recorders-B-Run g a = record { table = a.history.table; kept = a.history.kept }

abbrev pub ghosts-two_recorders-B-Bench : goal.ghosts-two_recorders-B-Bench
ghosts-two_recorders-B-Bench g a = record { slate = a.opened.slate; all = 1 }

abbrev pub ghosts-two_recorders-B-Ledger : goal.ghosts-two_recorders-B-Ledger
ghosts-two_recorders-B-Ledger g a = record { name = a.opened.ledger; parts = 1 }
