use Rattle.test_threads.proofs.runs.lent.Given as goal

abbrev pub ghosts-rounds_under_locks-B-Bond : goal.ghosts-rounds_under_locks-B-Bond
ghosts-rounds_under_locks-B-Bond g a = record { values_table = a.ties.table; first_values = a.kernel.parts.cells }

abbrev pub ghosts-rounds_under_locks-B-Run : goal.ghosts-rounds_under_locks-B-Run
ghosts-rounds_under_locks-B-Run g a = record { table = a.history.table; kept = a.history.kept }
