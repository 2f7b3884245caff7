use Rattle.plain_runs.proofs.serial.next_event.Given as goal

abbrev pub ghost-next_birth : goal.ghost-next_birth
ghost-next_birth g a = g.s

abbrev pub ghost-next_pick : goal.ghost-next_pick
ghost-next_pick g a = g.s

abbrev pub ghost-next_in_rounds : goal.ghost-next_in_rounds
ghost-next_in_rounds g a = g.s
