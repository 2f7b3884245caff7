use Rattle.image_reading.proofs.containers.container_with.Given as goal

abbrev pub ghost-words_of : goal.ghost-words_of
ghost-words_of g a = g.s
