use Rattle.edge_managers.specs.Managers.{counted_word, is_due}
use Rattle.test_commands.proofs.trace_command_tests.checked.Given as goal

-- the managers of the program
abbrev pub ghost-check_trace : goal.ghost-check_trace
ghost-check_trace a = record { word = counted_word; wish = is_due }
