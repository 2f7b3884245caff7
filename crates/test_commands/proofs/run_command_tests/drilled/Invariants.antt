use Rattle.edge_managers.specs.Managers.{counted_word, is_due}
use Rattle.test_commands.proofs.run_command_tests.drilled.Given as goal

-- the managers of the program
abbrev pub ghost-run_drill : goal.ghost-run_drill
ghost-run_drill a = record { supply = counted_word; policy = is_due }
