use Rattle.thread_history.proofs.tests.two_entries_stand_in_their_order.Given as goal

abbrev pub ghosts-two_entries : goal.ghosts-two_entries
ghosts-two_entries g a = record { table = a.opened.table; kept = a.opened.kept }
