use Rattle.edge_managers.specs.Managers.{counted_word, is_due}
use Rattle.test_boards.proofs.plain.verdict.Given as goal

-- words that count up from the tag, and a snapshot after every so many versions
abbrev pub ghost-check_trace : goal.ghost-check_trace
ghost-check_trace a = record { word = λ tag page place. counted_word tag page place; wish = λ every since. is_due every since }
