use Rattle.edge_managers.specs.Managers.{counted_word}
use Rattle.test_replays.proofs.shows.facts_of.Given as goal

-- words that count up from the tag
abbrev pub ghost-read_image : goal.ghost-read_image
ghost-read_image a = λ tag page place. counted_word tag page place
