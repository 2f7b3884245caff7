use Rattle.hopper_top.proofs.top.hopper.Given as goal

abbrev pub ghost-do_any : goal.ghost-do_any
ghost-do_any g a = g.m
