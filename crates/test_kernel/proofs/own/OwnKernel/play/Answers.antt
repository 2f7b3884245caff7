use Rattle.test_kernel.proofs.own.OwnKernel.play.Goals as goal

pub play-requires-clause-clean : goal.play-requires-clause-clean
play-requires-clause-clean g c = c.self.invariant

pub invariant_of-self : goal.invariant_of-self
invariant_of-self g c = c.play.ensures.clean
