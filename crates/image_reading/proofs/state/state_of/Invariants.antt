use Rattle.image_reading.proofs.state.state_of.Given as goal

abbrev pub ghost-containers_of : goal.ghost-containers_of
ghost-containers_of g a = g.s
