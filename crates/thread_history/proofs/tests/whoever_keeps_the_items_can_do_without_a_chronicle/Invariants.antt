use Rattle.thread_history.proofs.tests.whoever_keeps_the_items_can_do_without_a_chronicle.Given as goal

abbrev pub ghosts-told_and_closed : goal.ghosts-told_and_closed
ghosts-told_and_closed g a = record { table = a.opened.table; kept = a.opened.kept }
