use Rattle.edge_managers.specs.Managers.{counted_word}
use Rattle.kernel_clients.proofs.tests.steps_to_end.Goals as goal

pub run_to_end-requires-clause-clean : goal.run_to_end-requires-clause-clean
run_to_end-requires-clause-clean c = c.in-Ok.ensures.clean counted_word
