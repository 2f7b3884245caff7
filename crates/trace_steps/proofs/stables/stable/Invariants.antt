use Rattle.trace_steps.proofs.stables.stable.Given as goal

abbrev pub ghost-take_stable : goal.ghost-take_stable
ghost-take_stable g a = g.p
