use Rattle.plain_runs.proofs.looks.round_look.Given as goal

abbrev pub ghost-look_then : goal.ghost-look_then
ghost-look_then g a = g.s
