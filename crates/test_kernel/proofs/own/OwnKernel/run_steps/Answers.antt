use Rattle.test_kernel.proofs.own.OwnKernel.run_steps.Goals as goal

pub run_steps-requires-clause-clean : goal.run_steps-requires-clause-clean
run_steps-requires-clause-clean g c = c.self.invariant

pub invariant_of-self : goal.invariant_of-self
invariant_of-self g c = c.run_steps.ensures.clean
