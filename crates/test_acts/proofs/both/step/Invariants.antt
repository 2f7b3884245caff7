use Rattle.test_acts.proofs.both.step.Given as goal

-- a supplier of tags
abbrev pub ghost-plain_step : goal.ghost-plain_step
ghost-plain_step a = λ tag page place. tag
