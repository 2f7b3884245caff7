use Rattle.plain_steps.proofs.steps.plain_step.Given as goal

abbrev pub ghost-carry_out : goal.ghost-carry_out
ghost-carry_out g a = g.s
