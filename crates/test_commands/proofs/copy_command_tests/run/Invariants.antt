use Rattle.edge_managers.specs.Managers.{counted_word, is_due}
use Rattle.test_commands.proofs.copy_command_tests.run.Given as goal

-- the managers of the program
abbrev pub ghost-run_script : goal.ghost-run_script
ghost-run_script a = record { supply = counted_word; policy = is_due }
