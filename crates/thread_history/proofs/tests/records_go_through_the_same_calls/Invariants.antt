use Rattle.thread_history.proofs.tests.records_go_through_the_same_calls.Given as goal

abbrev pub ghosts-two_records : goal.ghosts-two_records
ghosts-two_records g a = record { table = a.opened.table; kept = a.opened.kept }
