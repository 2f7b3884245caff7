use Rattle.command_check_trace.proofs.checking.check_trace.Given as goal

abbrev pub ghost-check_bytes : goal.ghost-check_bytes
ghost-check_bytes g a = g.m
