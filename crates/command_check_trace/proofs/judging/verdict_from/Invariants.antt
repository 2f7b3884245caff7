use Rattle.command_check_trace.proofs.judging.verdict_from.Given as goal

abbrev pub ghost-check : goal.ghost-check
ghost-check g a = g.m
