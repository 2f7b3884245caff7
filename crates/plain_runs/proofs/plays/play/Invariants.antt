use Rattle.plain_runs.proofs.plays.play.Given as goal

abbrev pub ghost-finish : goal.ghost-finish
ghost-finish g a = g.s
