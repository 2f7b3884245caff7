use Rattle.trace_steps.proofs.wants.is_due.Given as goal

abbrev pub ghost-is_open : goal.ghost-is_open
ghost-is_open g a = g.p
