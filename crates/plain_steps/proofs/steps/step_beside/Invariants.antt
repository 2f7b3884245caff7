use Rattle.plain_steps.proofs.steps.step_beside.Given as goal

abbrev pub ghost-step_atlas : goal.ghost-step_atlas
ghost-step_atlas g a = g.s

abbrev pub ghost-step_container : goal.ghost-step_container
ghost-step_container g a = g.s

abbrev pub ghost-step_locus : goal.ghost-step_locus
ghost-step_locus g a = g.s
