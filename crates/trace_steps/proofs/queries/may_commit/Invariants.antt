use Rattle.trace_steps.proofs.queries.may_commit.Given as goal

abbrev pub ghost-has_wish : goal.ghost-has_wish
ghost-has_wish g a = g.p
