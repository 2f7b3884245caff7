use Rattle.edge_managers.specs.Managers.{counted_word}
use Rattle.test_kernel.proofs.own.OwnKernel.open.Goals as goal

pub invariant_of-result : goal.invariant_of-result
invariant_of-result g c = c.in-Ok.ensures.clean counted_word
