use Rattle.test_kernel.proofs.own.OwnKernel.finish.Goals as goal

pub finish-requires-clause-clean : goal.finish-requires-clause-clean
finish-requires-clause-clean g c = c.self.invariant

pub invariant_of-self : goal.invariant_of-self
invariant_of-self g c = c.finish.ensures.clean
