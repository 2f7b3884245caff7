use Rattle.thread_board.proofs.tests.items_of_two_threads_ascend_and_are_apart.Given as goal

abbrev pub ghosts-two_workers-B-Bench : goal.ghosts-two_workers-B-Bench
ghosts-two_workers-B-Bench g a = record { slate = a.opened.slate; all = 1 }

abbrev pub ghosts-two_workers-B-Ledger : goal.ghosts-two_workers-B-Ledger
ghosts-two_workers-B-Ledger g a = record { name = a.opened.ledger; parts = 1 }
