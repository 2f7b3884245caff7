use Rattle.trace_steps.proofs.queries.has_wish.Given as goal

abbrev pub ghost-is_open : goal.ghost-is_open
ghost-is_open g a = g.p
