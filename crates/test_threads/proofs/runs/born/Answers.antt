use Rattle.edge_managers.specs.Managers.{counted_word}
use Rattle.test_threads.proofs.runs.born.Goals as goal

pub returns : goal.returns
returns c = c.births.ensures.clean counted_word (c.in-Ok.ensures.clean counted_word)
