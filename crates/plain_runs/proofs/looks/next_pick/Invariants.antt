use Rattle.plain_runs.proofs.looks.next_pick.Given as goal

abbrev pub ghost-picks_from : goal.ghost-picks_from
ghost-picks_from g a = g.s
