use Rattle.edge_managers.specs.Managers.{counted_word}
use Rattle.test_kernel.proofs.own.OwnKernel.births.Goals as goal

pub invariant_of-self : goal.invariant_of-self
invariant_of-self g c = c.births.ensures.clean counted_word c.self.invariant
