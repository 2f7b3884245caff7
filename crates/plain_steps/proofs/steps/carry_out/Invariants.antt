use Rattle.plain_steps.proofs.steps.carry_out.Given as goal

abbrev pub ghost-step_refused : goal.ghost-step_refused
ghost-step_refused g a = g.s

abbrev pub ghost-step_mapping : goal.ghost-step_mapping
ghost-step_mapping g a = g.s

abbrev pub ghost-step_beside : goal.ghost-step_beside
ghost-step_beside g a = g.s

abbrev pub ghost-step_local : goal.ghost-step_local
ghost-step_local g a = g.s

abbrev pub ghost-step_make : goal.ghost-step_make
ghost-step_make g a = g.s

abbrev pub ghost-step_spawn : goal.ghost-step_spawn
ghost-step_spawn g a = g.s
