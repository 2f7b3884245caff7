use Rattle.trace_steps.proofs.steps.step.Given as goal

abbrev pub ghost-plain_step : goal.ghost-plain_step
ghost-plain_step g a = g.gate.word

abbrev pub ghost-is_any_due : goal.ghost-is_any_due
ghost-is_any_due g a = g.gate.wish
