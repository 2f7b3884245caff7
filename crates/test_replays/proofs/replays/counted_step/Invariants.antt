use Rattle.edge_managers.specs.Managers.{counted_word}
use Rattle.test_replays.proofs.replays.counted_step.Given as goal

-- words that count up from the tag
abbrev pub ghost-plain_step : goal.ghost-plain_step
ghost-plain_step a = λ tag page place. counted_word tag page place
