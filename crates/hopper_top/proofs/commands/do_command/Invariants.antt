use Rattle.hopper_top.specs.Leaving.{answers_of}
use Rattle.hopper_top.proofs.commands.do_command.Given as goal

abbrev pub ghost-run_script : goal.ghost-run_script
ghost-run_script g a = g.m

abbrev pub ghost-show_image : goal.ghost-show_image
ghost-show_image g a = g.m.supply

abbrev pub ghost-report_image : goal.ghost-report_image
ghost-report_image g a = g.m.supply

abbrev pub ghost-run_drill : goal.ghost-run_drill
ghost-run_drill g a = g.m

abbrev pub ghost-check_trace : goal.ghost-check_trace
ghost-check_trace g a = answers_of g.m
