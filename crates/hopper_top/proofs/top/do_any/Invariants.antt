use Rattle.hopper_top.proofs.top.do_any.Given as goal

abbrev pub ghost-run_on_workers : goal.ghost-run_on_workers
ghost-run_on_workers g a = g.m

abbrev pub ghost-do_command : goal.ghost-do_command
ghost-do_command g a = g.m
