use Rattle.plain_runs.proofs.plays.record_next.Given as goal

abbrev pub ghost-next : goal.ghost-next
ghost-next g a = g.s
