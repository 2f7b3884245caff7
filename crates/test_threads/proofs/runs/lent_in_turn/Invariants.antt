use Rattle.test_threads.proofs.runs.lent_in_turn.Given as goal

abbrev pub ghosts-turns_under_locks-B-Bond : goal.ghosts-turns_under_locks-B-Bond
ghosts-turns_under_locks-B-Bond g a = record { values_table = a.ties.table; first_values = a.kernel.parts.cells }

abbrev pub ghosts-turns_under_locks-B-Run : goal.ghosts-turns_under_locks-B-Run
ghosts-turns_under_locks-B-Run g a = record { table = a.history.table; kept = a.history.kept }
