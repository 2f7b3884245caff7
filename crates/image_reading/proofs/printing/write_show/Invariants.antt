use Rattle.image_reading.proofs.printing.write_show.Given as goal

abbrev pub ghost-write_show : goal.ghost-write_show
ghost-write_show g a = g.s
