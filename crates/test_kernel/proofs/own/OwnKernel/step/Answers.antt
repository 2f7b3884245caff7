use Rattle.test_kernel.proofs.own.OwnKernel.step.Goals as goal

pub step-requires-clause-clean : goal.step-requires-clause-clean
step-requires-clause-clean g c = c.self.invariant

pub invariant_of-self : goal.invariant_of-self
invariant_of-self g c = c.step.ensures.clean
