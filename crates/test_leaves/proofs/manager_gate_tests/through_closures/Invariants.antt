use Rattle.edge_managers.specs.Managers.{counted_word, is_due}
use Rattle.test_leaves.proofs.manager_gate_tests.through_closures.Given as goal

abbrev pub ghost-top_word : goal.ghost-top_word
ghost-top_word a = (counted_word, is_due)
