use Rattle.plain_steps.proofs.acts.load.Given as goal

abbrev pub ghost-word : goal.ghost-word
ghost-word g a = g.s
