use Rattle.image_reading.proofs.image.read_image.Given as goal

abbrev pub ghost-state_of : goal.ghost-state_of
ghost-state_of g a = g.s
