use Rattle.trace_steps.proofs.snaps.try_record.Given as goal

abbrev pub ghost-may_commit : goal.ghost-may_commit
ghost-may_commit g a = g.p
