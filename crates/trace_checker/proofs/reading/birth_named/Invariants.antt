use Rattle.trace_checker.proofs.reading.birth_named.Given as goal

abbrev pub ghost-birth : goal.ghost-birth
ghost-birth g a = g.gate
