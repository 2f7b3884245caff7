use Rattle.command_show.proofs.shows.show_image.Given as goal

abbrev pub ghost-read_image : goal.ghost-read_image
ghost-read_image g a = g.s

abbrev pub ghost-put_show : goal.ghost-put_show
ghost-put_show g a = g.s
