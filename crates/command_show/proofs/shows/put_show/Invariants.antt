use Rattle.command_show.proofs.shows.put_show.Given as goal

abbrev pub ghost-write_show : goal.ghost-write_show
ghost-write_show g a = g.s
