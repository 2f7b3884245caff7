use Rattle.edge_managers.specs.Managers.{counted_word}
use Rattle.test_replays.proofs.shows.shown_of.Given as goal

-- words that count up from the tag
abbrev pub ghost-write_show : goal.ghost-write_show
ghost-write_show a = λ tag page place. counted_word tag page place
