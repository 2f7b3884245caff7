use Rattle.command_show.proofs.reports.report_image.Given as goal

abbrev pub ghost-read_image : goal.ghost-read_image
ghost-read_image g a = g.s
