use Rattle.plain_runs.proofs.looks.look_then.Given as goal

abbrev pub ghost-look : goal.ghost-look
ghost-look g a = g.s
