use Rattle.plain_runs.proofs.serial.SerialRun.next.Given as goal

abbrev pub ghost-next_event : goal.ghost-next_event
ghost-next_event g a = g.s
