use Rattle.trace_steps.proofs.following.birth_of.Given as goal

abbrev pub ghost-birth : goal.ghost-birth
ghost-birth g a = g.gate
