use Rattle.hopper_top.proofs.serving.serve.Given as goal

abbrev pub ghost-do_command : goal.ghost-do_command
ghost-do_command g a = g.m
