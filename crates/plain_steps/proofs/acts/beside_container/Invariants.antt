use Rattle.plain_steps.proofs.acts.beside_container.Given as goal

abbrev pub ghost-load : goal.ghost-load
ghost-load g a = g.s
