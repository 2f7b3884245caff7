use Rattle.plain_steps.proofs.carry.step_container.Given as goal

abbrev pub ghost-beside_container : goal.ghost-beside_container
ghost-beside_container g a = g.s
