use Rattle.image_reading.proofs.containers.container_at.Given as goal

abbrev pub ghost-container_with : goal.ghost-container_with
ghost-container_with g a = g.s
