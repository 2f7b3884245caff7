use Rattle.test_plain.proofs.history_model_tests.step.Given as goal

-- a supplier of zeros
abbrev pub ghost-plain_step : goal.ghost-plain_step
ghost-plain_step a = λ tag page place. 0
