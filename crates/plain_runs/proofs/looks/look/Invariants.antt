use Rattle.plain_runs.proofs.looks.look.Given as goal

abbrev pub ghost-plain_step : goal.ghost-plain_step
ghost-plain_step g a = g.s
