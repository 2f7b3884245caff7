use Rattle.plain_runs.proofs.looks.next_in_rounds.Given as goal

abbrev pub ghost-round_from : goal.ghost-round_from
ghost-round_from g a = g.s
