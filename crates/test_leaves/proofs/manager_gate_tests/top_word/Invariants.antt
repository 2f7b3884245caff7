use Rattle.test_leaves.proofs.manager_gate_tests.top_word.Given as goal

abbrev pub ghosts-word_by : goal.ghosts-word_by
ghosts-word_by g a = record { word = g.s.0; wish = g.s.1 }
