use Rattle.edge_managers.specs.Managers.{counted_word}
use Rattle.test_replays.proofs.serials.serial_history.Given as goal

-- words that count up from the tag
abbrev pub ghost-play : goal.ghost-play
ghost-play a = λ tag page place. counted_word tag page place
