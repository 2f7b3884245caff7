use Rattle.trace_checker.proofs.checks.read_line.Given as goal

abbrev pub ghost-wanted : goal.ghost-wanted
ghost-wanted g a = g.gate
