use Rattle.trace_steps.proofs.snaps.snap.Given as goal

abbrev pub ghost-may_commit : goal.ghost-may_commit
ghost-may_commit g a = g.p

abbrev pub ghost-take_snap : goal.ghost-take_snap
ghost-take_snap g a = g.p
