use Rattle.trace_checker.proofs.reading.wanted.Given as goal

abbrev pub ghost-birth_named : goal.ghost-birth_named
ghost-birth_named g a = g.gate

abbrev pub ghost-next : goal.ghost-next
ghost-next g a = g.gate
