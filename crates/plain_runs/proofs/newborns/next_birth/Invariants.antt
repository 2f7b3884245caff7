use Rattle.plain_runs.proofs.newborns.next_birth.Given as goal

abbrev pub ghost-birth_turn : goal.ghost-birth_turn
ghost-birth_turn g a = g.s
